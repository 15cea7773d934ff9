use Rattle.std.proofs.Common.{◌≡◌, ◌<◌, ◌≤◌, arith, length, false, Some, None, ◌∷◌, ap, sym, ◌∙◌, subst, []}
use Rattle.bt_linear_forms.specs.Lines.{one, signed_terms}
use Rattle.bt_pivot.specs.Classes.{member_at, slots_of}
use Rattle.bt_pivot.specs.SolvedForms.{slot_at}
use Rattle.bt_pivot.proofs.Classes.{slot_past, read_is, line_at, like_at, itself_at, first_slot, class_in}
use Rattle.bt_pivot.proofs.basis.Basis.place.Goals as goal

pub returns-then-position-len : goal.returns-then-position-len
returns-then-position-len c =
    let past : length c.self.inside.members.items ≤ c.args.position = omega arith in
    subst (λ s. slot_at s c.args.position ≡ None) c.self.view_is (slot_past c.self.inside.members.items c.self.inside.lines.items c.self.inside.outside.items c.args.position past)

pub returns-then-other-position : goal.returns-then-other-position
returns-then-other-position c =
    let members = c.self.inside.members.items in
    let within : c.args.position < length c.self.inside.members.items = omega arith in
    let m = c.index.result.now in
    let m_is : member_at c.self.inside.members.items c.args.position ≡ c.index.result.now = read_is members c.args.position (record { class = 0; negated = false }) m within c.index.ensures in
    let low = class_in members c.self.inside.firsts.items c.self.inside.lines.items c.self.inside.outside.items c.self.invariant c.args.position m within m_is in
    let line = read_is c.self.inside.lines.items m.class None c.index-2.result.now (subst (λ n. m.class < n) (sym c.self.invariant.lines_many) low) c.index-2.ensures ∙ c.in-None.is in
    let out = read_is c.self.inside.outside.items m.class 0 c.index-other.result.now (subst (λ n. m.class < n) (sym c.self.invariant.outside_many) low) c.index-other.ensures in
    subst (λ s. slot_at s c.args.position ≡ None) c.self.view_is
    (itself_at members c.self.inside.firsts.items c.self.inside.lines.items c.self.inside.outside.items c.self.invariant c.args.position m c.index-other.result.now within m_is line out c.if-other-position.true)

pub returns-in-Some : goal.returns-in-Some
returns-in-Some c =
    let members = c.self.inside.members.items in
    let within : c.args.position < length c.self.inside.members.items = omega arith in
    let m = c.index.result.now in
    let m_is : member_at c.self.inside.members.items c.args.position ≡ c.index.result.now = read_is members c.args.position (record { class = 0; negated = false }) m within c.index.ensures in
    let low = class_in members c.self.inside.firsts.items c.self.inside.lines.items c.self.inside.outside.items c.self.invariant c.args.position m within m_is in
    let line = read_is c.self.inside.lines.items m.class None c.index-2.result.now (subst (λ n. m.class < n) (sym c.self.invariant.lines_many) low) c.index-2.ensures ∙ c.in-Some.is in
    let first = read_is c.self.inside.firsts.items m.class 0 c.index-in-Some.result.now low c.index-in-Some.ensures in (
      subst (λ s. slot_at s c.args.position ≡ Some (signed_terms m.negated c.in-Some.line)) c.self.view_is
          (line_at members c.self.inside.firsts.items c.self.inside.lines.items c.self.inside.outside.items c.self.invariant c.args.position m c.in-Some.line within m_is line),
      subst (λ s. slot_at s c.index-in-Some.result.now ≡ Some c.in-Some.line) c.self.view_is
          (subst (λ q. slot_at (slots_of c.self.inside.members.items c.self.inside.lines.items c.self.inside.outside.items) q ≡ Some c.in-Some.line) first
          (first_slot members c.self.inside.firsts.items c.self.inside.lines.items c.self.inside.outside.items c.self.invariant m.class c.in-Some.line line)),
    )

pub returns-else-other-position : goal.returns-else-other-position
returns-else-other-position c =
    let members = c.self.inside.members.items in
    let within : c.args.position < length c.self.inside.members.items = omega arith in
    let m = c.index.result.now in
    let m_is : member_at c.self.inside.members.items c.args.position ≡ c.index.result.now = read_is members c.args.position (record { class = 0; negated = false }) m within c.index.ensures in
    let low = class_in members c.self.inside.firsts.items c.self.inside.lines.items c.self.inside.outside.items c.self.invariant c.args.position m within m_is in
    let line = read_is c.self.inside.lines.items m.class None c.index-2.result.now (subst (λ n. m.class < n) (sym c.self.invariant.lines_many) low) c.index-2.ensures ∙ c.in-None.is in
    let out = read_is c.self.inside.outside.items m.class 0 c.index-other.result.now (subst (λ n. m.class < n) (sym c.self.invariant.outside_many) low) c.index-other.ensures in
    let out_in : c.index-other.result.now < length c.self.inside.members.items = subst (λ q. q < length c.self.inside.members.items) out (c.self.invariant.outside_within m.class low) in
    let other = read_is members c.index-other.result.now (record { class = 0; negated = false }) c.index-in-None.result.now out_in c.index-in-None.ensures in (
      subst (λ s. slot_at s c.args.position ≡ Some (signed_terms c.differ.result ((c.index-other.result.now, one) ∷ []))) c.self.view_is
          (like_at members c.self.inside.firsts.items c.self.inside.lines.items c.self.inside.outside.items c.self.invariant c.args.position m c.index-other.result.now c.index-in-None.result.now within m_is line out c.if-other-position.false other
          ∙ ap (λ b. Some (signed_terms b ((c.index-other.result.now, one) ∷ []))) (sym c.differ.ensures)),
      omega arith,
    )
