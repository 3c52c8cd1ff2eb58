mod GlobalParts
