-- `line_report::text::write_decimal` ends: it calls itself with the number without its last digit.
use Rattle.line_report.proofs.text.+write_decimal.Given as goal

abbrev pub decreases-write_decimal : goal.decreases-write_decimal
decreases-write_decimal l = l.number
