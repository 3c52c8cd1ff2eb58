-- The line of a text in which a fault stands, and the mark below it.
use Rattle.std.specs.Prelude.{ℕ, zero, suc, ◌-◌, List, [], ◌∷◌, ◌++◌, map, take, drop, codes, nat_eq, nat_le, if◌then◌else◌}
use Rattle.std.specs.List.{take_while}
use Rattle.ir_model.specs.declared.token.Pos.{Pos}
use Rattle.ir_model.specs.Texts.{is_inside_line}
use Rattle.aces_reports.specs.FaultLines.{line_feed}

-- what stands behind so many line feeds
abbrev pub behind_feeds : (feeds : ℕ) → (bytes : List ℕ) → List ℕ
behind_feeds zero bs = bs
behind_feeds (suc n) [] = []
behind_feeds (suc n) (b ∷ bs) = if is_inside_line b then behind_feeds (suc n) bs else behind_feeds n bs

-- the line of this number, from 1, without its line feed
abbrev pub line_at : (bytes : List ℕ) → (line : ℕ) → List ℕ
line_at bytes line = take_while is_inside_line (behind_feeds (line - 1) bytes)

-- the number of its bytes that are shown at most
abbrev pub shown_limit : ℕ
shown_limit = 120

-- how many bytes are left out at its front: none, or all before the column where that would not be shown
abbrev pub left_out : (column : ℕ) → ℕ
left_out column = if nat_le column shown_limit then 0 else column - 1

-- what stands below a byte: a tab below a tab, and else a space
abbrev pub below : ℕ → ℕ
below b = if nat_eq b 9 then 9 else 32

-- the part of a line that is shown
abbrev pub shown : (line : List ℕ) → (column : ℕ) → List ℕ
shown line column = take shown_limit (drop (left_out column) line)

-- what stands below it: a `^` at the column
abbrev pub mark : (line : List ℕ) → (column : ℕ) → List ℕ
mark line column = map below (take (column - 1 - left_out column) (drop (left_out column) line)) ++ codes "^"

-- both, as lines
abbrev pub marked : (line : List ℕ) → (column : ℕ) → List ℕ
marked line column = shown line column ++ line_feed ++ mark line column ++ line_feed

-- those of a place in a text
abbrev pub excerpt : (bytes : List ℕ) → Pos → List ℕ
excerpt bytes pos = marked (line_at bytes pos.line) pos.col
