-- A rule of the table is told by its number (`table_rule`), which is from 1 to 29 (`table_number`).
use Rattle.std.specs.Prelude.{◌≡◌, refl, true, ◌≤◌}
use mathlib.Core.Bool.{false≢true}
use native.Mathlib.Omega.{arith}
use Rattle.refusals.specs.Refusals.{number_of, rule_of, in_table}
use Rattle.refusals.specs.declared.Rule.{Rule}
use Rattle.refusals.specs.declared.Rule.TheVariants.{Other}

pub table_rule : (n : Rule) → in_table n ≡ true → rule_of (number_of n) ≡ n
table_rule (Other n) h = absurd (false≢true h)
table_rule n h = refl

pub table_number : (n : Rule) → in_table n ≡ true → (1 ≤ number_of n) × (number_of n ≤ 29)
table_number (Other n) h = absurd (false≢true h)
table_number n h = (omega arith, omega arith)
