-- How many layouts a line lists.
use Rattle.std.specs.Prelude.{ℕ}
use Rattle.lines.specs.declared.spelling.LayoutCount.{LayoutCount}

-- the number of layouts that a line lists
abbrev pub listed : LayoutCount → ℕ
listed c = c.count
