use Rattle.std.proofs.Common.{◌≡◌, ◌++◌, ◌∷◌, [], ◌∙◌, ap, arith, length, List, ℕ, sym, subst}
use Rattle.bt_choosers.specs.Orders.{HasFirst}
use Rattle.bt_choosers.proofs.Listing.{first_more}
use Rattle.bt_choosers.proofs.order.cover.Goals as goal

pub loop-vars-preserved : goal.loop-vars-preserved
loop-vars-preserved c =
    let vars : List ℕ = c.loop-vars.vars.items in
    let var : ℕ = c.id_of.result in
    let is : var ≡ length vars = omega (arith, c.id_of.ensures, c.len-in-loop-vars-2.ensures, c.loop-vars.vars.ok.0) in
    let became : vars ++ length vars ∷ [] ≡ c.push.new.self.items = ap (λ n. vars ++ n ∷ []) (sym is) ∙ sym {A = List ℕ} c.in_ok-push.ensures.items in
    subst (λ (xs : List ℕ). HasFirst (length xs) xs) became (first_more vars c.loop-vars.invariant)

pub returns-in_err-push-clause-each : goal.returns-in_err-push-clause-each
returns-in_err-push-clause-each c = subst (λ (xs : List ℕ). HasFirst (length xs) xs) (sym {A = List ℕ} c.in_err-push.ensures.items) c.loop-vars.invariant
