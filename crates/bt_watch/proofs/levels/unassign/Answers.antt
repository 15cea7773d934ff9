use Rattle.std.proofs.Common.{◌≡◌, ◌<◌, ◌+◌, arith, length, sym, subst, ap, ◌∙◌, ◌≢◌, ℕ, [], ◌∷◌, ◌++◌, min, length-append, length-set, refl, set}
use Rattle.std.specs.Prelude.{take}
use Rattle.std.proofs.Math.Seq.{take-append_seam}
use Rattle.std.proofs.lemmas.List.{get_or_append_left, get_or_push, length-take}
use Rattle.bt_cnf.specs.declared.literal.Lit.{Lit}
use Rattle.bt_watch.specs.Watched.{no_lit}
use Rattle.bt_watch.specs.Keeping.{AreTrue}
use Rattle.bt_watch.specs.Levels.{ArePlaced}
use Rattle.bt_watch.specs.Reasons.{lit_at}
use Rattle.bt_watch.proofs.Backjumped.{apart_places, placed_front, take_take, truths_less}
use Rattle.bt_watch.proofs.levels.unassign.Goals as goal

pub loop-assignment-preserved-in-Some : goal.loop-assignment-preserved-in-Some
loop-assignment-preserved-in-Some c =
    let old = c.args.assignment.now in
    let mid = c.loop-assignment.assignment in
    let l = c.in-Some.lit in
    let front = c.pop.new.self.items in
    let inv = c.loop-assignment.invariant in
    let split : mid.trail.items ≡ front ++ l ∷ [] = c.in-Some.ensures.items in
    let size : length mid.trail.items ≡ length front + 1 = ap length split ∙ length-append front (l ∷ []) in
    let was : length mid.trail.items ≡ min (length mid.trail.items) (length old.trail.items) = ap length inv.trail ∙ length-take (length mid.trail.items) old.trail.items in
    let placed : ArePlaced mid = placed_front old mid (length mid.trail.items) inv.trail inv.places c.requires.placed in
    let at : (k : ℕ) → k < length front → lit_at mid.trail.items k ≡ lit_at front k = λ k small. ap (λ ts. lit_at ts k) split ∙ get_or_append_left front (l ∷ []) no_lit k small in
    let last : lit_at mid.trail.items (length front) ≡ l = ap (λ ts. lit_at ts (length front)) split ∙ get_or_push front l no_lit (length front) refl in
    let apart : (k : ℕ) → k < length front → (lit_at front k).var ≢ l.var = λ k small same.
    let e : k ≡ length front = apart_places mid placed k (length front) (omega (arith, small, size)) (omega (arith, size)) (ap (λ (m : Lit). m.var) (at k small) ∙ same ∙ ap (λ (m : Lit). m.var) (sym last)) in
    absurd (omega (arith, small, e)) in
    record {
      trail =
          sym (take-append_seam front (l ∷ [])) ∙ ap (take (length front)) (sym split ∙ inv.trail)
          ∙ take_take (length front) (length mid.trail.items) old.trail.items (omega (arith, size));
      enough = omega (arith, inv.enough, size, was, c.loop-assignment-test.true, c.len.ensures);
      reasons = inv.reasons;
      places = inv.places;
      variables = length-set mid.values l.var c.unset.result ∙ inv.variables;
      truths = subst (λ value. AreTrue (set mid.values l.var value) front) (sym c.unset.ensures) (truths_less mid.values front l (subst (AreTrue mid.values) split inv.truths) apart);
    }
