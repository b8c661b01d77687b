-- `layout::decimal::put_decimal` meets its contract. It calls itself; the number that falls is how many digits are left.
use Rattle.layout.proofs.Decimals.{digits_none, digits_one, digits_more}
use Rattle.layout.proofs.decimal.+put_decimal.Goals as goal

pub returns-then-most-eq0 : goal.returns-then-most-eq0
returns-then-most-eq0 t c = let all = digits_none _ _ _ _ c.if-most-eq0.true in record { is = all.0; kept = all.1 }

pub returns-then-v-lt10 : goal.returns-then-v-lt10
returns-then-v-lt10 t c = let all = digits_one _ _ _ _ c.if-most-eq0.false _ c.if-v-lt10.true c.put.ensures in record { is = all.0; kept = all.1 }

pub returns : goal.returns
returns t c =
    let all = digits_more _ _ _ _ c.if-most-eq0.false _ _ _ c.if-v-lt10.false (c.put_decimal-end.ensures.is, c.put_decimal-end.ensures.kept) c.put-2.ensures in record { is = all.0; kept = all.1 }
