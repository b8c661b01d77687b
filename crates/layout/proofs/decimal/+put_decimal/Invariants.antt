-- `layout::decimal::put_decimal` meets its contract. It calls itself; the number that falls is how many digits are left.
use Rattle.layout.proofs.decimal.+put_decimal.Given as goal

abbrev pub decreases-put_decimal : goal.decreases-put_decimal
decreases-put_decimal l = l.most
