mod RowSteps
