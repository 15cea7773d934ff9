use Rattle.std.proofs.Common.{◌≡◌, ◌<◌, length, ◌∷◌, ◌++◌, Some, ap, ◌∙◌, subst, []}
use Rattle.bt_pivot.specs.Classes.{class_terms, position_at}
use Rattle.bt_pivot.specs.SolvedForms.{slot_at}
use Rattle.bt_pivot.proofs.GrowingClasses.{joined_made}
use Rattle.bt_pivot.proofs.basis.Basis.with_line.Goals as goal

pub returns-in_ok-members-in-Some : goal.returns-in_ok-members-in-Some
returns-in_ok-members-in-Some c =
    let inside = subst (λ l. c.args.class < length l) c.deref-2.ensures.value c.in-Some.ensures.within in
    let sign0 = subst (λ l. class_terms c.deref.result.now (slot_at l c.args.class) (position_at c.deref-3.result.now c.args.class) c.in-Some.negated ≡ c.deref-4.result.now) c.deref-2.ensures.value c.in-Some.ensures.sign in
    let sign1 = subst (λ m. class_terms m (slot_at c.self.inside.lines.items c.args.class) (position_at c.deref-3.result.now c.args.class) c.in-Some.negated ≡ c.deref-4.result.now) c.deref.ensures.value sign0 in
    let sign2 = subst (λ o. class_terms c.self.inside.members.items (slot_at c.self.inside.lines.items c.args.class) (position_at o c.args.class) c.in-Some.negated ≡ c.deref-4.result.now) c.deref-3.ensures.value sign1 in
    (joined_made c.self.inside.members.items c.self.inside.firsts.items c.self.inside.lines.items c.self.inside.outside.items c.self.invariant c.args.class c.in-Some.negated c.args.terms.items
    c.in_ok-members-in-Some.members.items inside (sign2 ∙ c.deref-4.ensures.value) c.in_ok-members-in-Some.ensures).0
    ∙ ap (λ s. s ++ Some c.args.terms.items ∷ []) c.self.view_is

pub invariant_of-result : goal.invariant_of-result
invariant_of-result c =
    let inside = subst (λ l. c.args.class < length l) c.deref-2.ensures.value c.in-Some.ensures.within in
    let sign0 = subst (λ l. class_terms c.deref.result.now (slot_at l c.args.class) (position_at c.deref-3.result.now c.args.class) c.in-Some.negated ≡ c.deref-4.result.now) c.deref-2.ensures.value c.in-Some.ensures.sign in
    let sign1 = subst (λ m. class_terms m (slot_at c.self.inside.lines.items c.args.class) (position_at c.deref-3.result.now c.args.class) c.in-Some.negated ≡ c.deref-4.result.now) c.deref.ensures.value sign0 in
    let sign2 = subst (λ o. class_terms c.self.inside.members.items (slot_at c.self.inside.lines.items c.args.class) (position_at o c.args.class) c.in-Some.negated ≡ c.deref-4.result.now) c.deref-3.ensures.value sign1 in
    (joined_made c.self.inside.members.items c.self.inside.firsts.items c.self.inside.lines.items c.self.inside.outside.items c.self.invariant c.args.class c.in-Some.negated c.args.terms.items
    c.in_ok-members-in-Some.members.items inside (sign2 ∙ c.deref-4.ensures.value) c.in_ok-members-in-Some.ensures).1
