-- Excerpts that were worked out by hand.
use Rattle.std.proofs.Common.{◌≡◌, ℕ, List, [], ◌∷◌, ◌++◌, codes, refl}
use Rattle.aces_reports.specs.FaultLines.{line_feed}
use Rattle.aces_explain.specs.Excerpt.{excerpt, line_at, shown, mark}

-- the second line of three, with a tab and then two spaces before its third word
abbrev text : List ℕ
text = codes "one" ++ line_feed ++ 9 ∷ codes "  two" ++ line_feed ++ codes "three"

second : excerpt text (record { line = 2; col = 4 }) ≡ 9 ∷ codes "  two" ++ line_feed ++ 9 ∷ codes "  ^" ++ line_feed
second = refl

-- just past the last byte of the text
end : excerpt text (record { line = 3; col = 6 }) ≡ codes "three" ++ line_feed ++ codes "     ^" ++ line_feed
end = refl

-- a line that is not there has no byte
none : line_at text 4 ≡ []
none = refl

-- 124 bytes, of which the first 120 are shown where the column is among them, and else those from the column on
abbrev long : List ℕ
long = codes "0123456789012345678901234567890123456789012345678901234567890123456789012345678901234567890123456789012345678901234567890123"

cut : shown long 120 ≡ codes "012345678901234567890123456789012345678901234567890123456789012345678901234567890123456789012345678901234567890123456789"
cut = refl

behind : shown long 122 ≡ codes "123"
behind = refl

begins : mark long 122 ≡ codes "^"
begins = refl
