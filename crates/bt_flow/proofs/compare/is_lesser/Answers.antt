use Rattle.bt_flow.proofs.Compared.{lesser_left, lesser_right}
use Rattle.bt_flow.proofs.compare.is_lesser.Goals as goal

pub returns-then-is_at_most : goal.returns-then-is_at_most
returns-then-is_at_most c = λ z x y d some ez ex ey.
    lesser_left z x y c.is_at_most.result c.is_same.result c.if-is_at_most.true (c.is_at_most.ensures x y d some ex ey) (c.is_same.ensures z x d some ez ex)

pub returns-else-is_at_most : goal.returns-else-is_at_most
returns-else-is_at_most c = λ z x y d some ez ex ey.
    lesser_right z x y c.is_at_most.result c.is_same-else-is_at_most.result c.if-is_at_most.false (c.is_at_most.ensures x y d some ex ey) (c.is_same-else-is_at_most.ensures z y d some ez ey)
