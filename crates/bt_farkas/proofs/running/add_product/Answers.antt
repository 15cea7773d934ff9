use Rattle.std.proofs.Common.{Option, Some, None, IfSome}
use Rattle.bt_frac.specs.Ratio.{Ratio, IsLowest, IsSum, CanAdd}
use Rattle.bt_frac.specs.Products.{IsProduct}
use Rattle.bt_farkas.specs.RunningSums.{AddsProduct}
use Rattle.bt_farkas.proofs.running.add_product.Goals as goal

added : (s a b p : Ratio) (o : Option Ratio) → IsLowest s → IsLowest a → IsLowest b → IsLowest p → IsProduct a b p → IfSome o IsLowest
    → IfSome o (λ r. IsSum s p r) → IfSome o (λ _. CanAdd s p) → IfSome o (AddsProduct s (a, b))
added s a b p None start left right low is lowest sum fits = tt
added s a b p (Some r) start left right low is lowest sum fits =
    record { start = start; left = left; right = right; product = p; product_lowest = low; is_product = is; sum = sum; fits = fits; lowest = lowest }

pub returns-clause-some : goal.returns-clause-some
returns-clause-some c =
    let low = c.mul.ensures.known in
    added c.args.sum.now c.args.left.now c.args.right.now c.in-Some.product c.add.result c.add.ensures.known.0 low.0 low.1 c.in-Some.ensures.lowest c.in-Some.ensures.some
    c.add.ensures.lowest c.add.ensures.sum c.add.ensures.fits
