use Rattle.text.proofs.laying.+lay_decimal.Given as goal

-- the number
abbrev pub decreases-lay_decimal : goal.decreases-lay_decimal
decreases-lay_decimal l = l.n
