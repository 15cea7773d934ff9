use Rattle.std.proofs.Common.{◌≡◌, ◌<◌, ◌-◌, ◌^◌, arith, length, false, set, None, IfOk, IfErr, ap, sym, ◌∙◌, subst, ℕ}
use Rattle.std.specs.Vec.{with_items}
use Rattle.std.proofs.lemmas.List.{with_items_is}
use Rattle.bt_linear_forms.specs.Lines.{signed_terms}
use Rattle.bt_pivot.specs.Classes.{member_at, position_at, slot_of, slots_of, AreClasses}
use Rattle.bt_pivot.specs.SolvedForms.{slot_at}
use Rattle.bt_pivot.specs.declared.basis.Member.{Member}
use Rattle.bt_pivot.specs.declared.causes.Cause.{Cause}
use Rattle.bt_pivot.specs.inner.SumCache.{AreOwn, LinesStay, OthersStay}
use Rattle.bt_pivot.specs.Sums.{SlotsStay}
use Rattle.bt_pivot.specs.PivotedSlots.{AreLines, IsPivoted, IsUnfitPivot}
use Rattle.bt_pivot.specs.inner.PivotedSlots.{AreSubstituted, with_line}
use Rattle.bt_pivot.specs.inner.UnfitPivots.{IsSlotZero, IsUnfitLine}
use Rattle.bt_pivot.proofs.Classes.{slots_length, read_is, class_in, classes_pivoted, classes_after, classes_unfit, lines_count}
use Rattle.bt_pivot.proofs.KeptSums.{slots_stay}
use Rattle.bt_pivot.proofs.UnfitPivots.{zero_named}
use Rattle.bt_pivot.proofs.pivoting.pivot_by.Goals as goal

pub signed_entering-requires-clause-position : goal.signed_entering-requires-clause-position
signed_entering-requires-clause-position c =
    let members = c.basis.inside.members.items in
    let firsts = c.basis.inside.firsts.items in
    let lines = c.basis.inside.lines.items in
    let outside = c.basis.inside.outside.items in
    let many : length c.args.basis.now ≡ length c.basis.inside.members.items = sym (ap length c.basis.view_is) ∙ slots_length (slot_of members lines outside) 0 members in
    let leaves_in : c.args.leaves < length c.basis.inside.members.items = subst (λ n. c.args.leaves < n) many c.requires.leaves in
    let enters_in : c.args.enters < length c.basis.inside.members.items = subst (λ n. c.args.enters < n) many c.requires.enters in
    omega arith

pub signed_entering-requires-clause-number : goal.signed_entering-requires-clause-number
signed_entering-requires-clause-number c =
    let zero = c.requires.zero in
    zero_named c.args.leaves c.args.enters zero.terms zero.number c.args.zero.now zero.is_zero c.requires.apart zero.is_line zero.named zero.lacks

pub index-requires : goal.index-requires
index-requires c =
    let members = c.basis.inside.members.items in
    let firsts = c.basis.inside.firsts.items in
    let lines = c.basis.inside.lines.items in
    let outside = c.basis.inside.outside.items in
    let many : length c.args.basis.now ≡ length c.basis.inside.members.items = sym (ap length c.basis.view_is) ∙ slots_length (slot_of members lines outside) 0 members in
    let leaves_in : c.args.leaves < length c.basis.inside.members.items = subst (λ n. c.args.leaves < n) many c.requires.leaves in
    let enters_in : c.args.enters < length c.basis.inside.members.items = subst (λ n. c.args.enters < n) many c.requires.enters in
    omega arith

pub index-requires-2 : goal.index-requires-2
index-requires-2 c =
    let members = c.basis.inside.members.items in
    let firsts = c.basis.inside.firsts.items in
    let lines = c.basis.inside.lines.items in
    let outside = c.basis.inside.outside.items in
    let many : length c.args.basis.now ≡ length c.basis.inside.members.items = sym (ap length c.basis.view_is) ∙ slots_length (slot_of members lines outside) 0 members in
    let leaves_in : c.args.leaves < length c.basis.inside.members.items = subst (λ n. c.args.leaves < n) many c.requires.leaves in
    let enters_in : c.args.enters < length c.basis.inside.members.items = subst (λ n. c.args.enters < n) many c.requires.enters in
    omega arith

pub substitute_others-requires : goal.substitute_others-requires
substitute_others-requires c =
    let members = c.basis.inside.members.items in
    let firsts = c.basis.inside.firsts.items in
    let lines = c.basis.inside.lines.items in
    let outside = c.basis.inside.outside.items in
    let many : length c.args.basis.now ≡ length c.basis.inside.members.items = sym (ap length c.basis.view_is) ∙ slots_length (slot_of members lines outside) 0 members in
    let leaves_in : c.args.leaves < length c.basis.inside.members.items = subst (λ n. c.args.leaves < n) many c.requires.leaves in
    let enters_in : c.args.enters < length c.basis.inside.members.items = subst (λ n. c.args.enters < n) many c.requires.enters in
    let left : member_at members c.args.leaves ≡ c.index-2.result.now = read_is members c.args.leaves (record { class = 0; negated = false }) c.index-2.result.now leaves_in c.index-2.ensures in
    let left_in = class_in members firsts lines outside c.basis.invariant c.args.leaves c.index-2.result.now leaves_in left in
    subst (λ l. c.index-2.result.now.class < length l) (sym c.deref_mut.ensures.value) (subst (λ n. c.index-2.result.now.class < n) (sym c.basis.invariant.lines_many) left_in)

pub returns-in-Err-clause-unfit : goal.returns-in-Err-clause-unfit
returns-in-Err-clause-unfit c =
    let members = c.basis.inside.members.items in
    let firsts = c.basis.inside.firsts.items in
    let lines = c.basis.inside.lines.items in
    let outside = c.basis.inside.outside.items in
    let many : length c.args.basis.now ≡ length c.basis.inside.members.items = sym (ap length c.basis.view_is) ∙ slots_length (slot_of members lines outside) 0 members in
    let leaves_in : c.args.leaves < length c.basis.inside.members.items = subst (λ n. c.args.leaves < n) many c.requires.leaves in
    let enters_in : c.args.enters < length c.basis.inside.members.items = subst (λ n. c.args.enters < n) many c.requires.enters in
    let left : member_at members c.args.leaves ≡ c.index-2.result.now = read_is members c.args.leaves (record { class = 0; negated = false }) c.index-2.result.now leaves_in c.index-2.ensures in
    let left_in = class_in members firsts lines outside c.basis.invariant c.args.leaves c.index-2.result.now leaves_in left in
    let zero = subst (λ s. IsSlotZero s c.args.leaves c.args.enters c.args.zero.now) (ap (λ b. slot_at b c.args.leaves) (sym c.basis.view_is)) c.requires.zero in
    let sub_items = with_items_is c.basis.inside.lines c.substitute_others.new.lines (c.substitute_others.auto.lines ∙ c.deref_mut.ensures.len) in
    let unfit0 = subst (λ o. IfErr o (IsUnfitLine c.index-2.result.now.class c.args.enters c.args.zero.now c.deref_mut.result.now c.substitute_others.new.lines)) c.in-Err.is c.in_ok-substitute_others.ensures.unfit in
    let unfit2 = subst (λ l. IsUnfitLine c.index-2.result.now.class c.args.enters c.args.zero.now l c.substitute_others.new.lines c.in-Err.cause) c.deref_mut.ensures.value unfit0 in
    let unfit = subst (λ (m : Member). IsUnfitLine m.class c.args.enters c.args.zero.now lines c.substitute_others.new.lines c.in-Err.cause) (sym left) unfit2 in
    let cause_is = c.at_first.ensures ∙ ap (λ f. at_row c.in-Err.cause (position_at f c.in-Err.cause.row)) c.deref-in-Err.ensures.value in
    subst (λ b. IsUnfitPivot b c.args.leaves c.args.enters (slots_of members (with_items c.basis.inside.lines c.substitute_others.new.lines).items outside) c.at_first.result) c.basis.view_is
    (subst (λ l. IsUnfitPivot (slots_of members lines outside) c.args.leaves c.args.enters (slots_of members l outside) c.at_first.result) (sym sub_items)
    (classes_unfit members firsts lines outside c.basis.invariant c.args.leaves c.args.enters c.args.zero.now c.substitute_others.new.lines c.in-Err.cause leaves_in c.requires.apart zero unfit c.at_first.result cause_is))
  where
    at_row : Cause → ℕ → Cause
    at_row cause row = record cause { row = row }

pub put_line-requires : goal.put_line-requires
put_line-requires c =
    let members = c.basis.inside.members.items in
    let firsts = c.basis.inside.firsts.items in
    let lines = c.basis.inside.lines.items in
    let outside = c.basis.inside.outside.items in
    let many : length c.args.basis.now ≡ length c.basis.inside.members.items = sym (ap length c.basis.view_is) ∙ slots_length (slot_of members lines outside) 0 members in
    let leaves_in : c.args.leaves < length c.basis.inside.members.items = subst (λ n. c.args.leaves < n) many c.requires.leaves in
    let enters_in : c.args.enters < length c.basis.inside.members.items = subst (λ n. c.args.enters < n) many c.requires.enters in
    let into : member_at members c.args.enters ≡ c.index.result.now = read_is members c.args.enters (record { class = 0; negated = false }) c.index.result.now enters_in c.index.ensures in
    let sub_items = with_items_is c.basis.inside.lines c.substitute_others.new.lines (c.substitute_others.auto.lines ∙ c.deref_mut.ensures.len) in
    let into_in = class_in members firsts lines outside c.basis.invariant c.args.enters c.index.result.now enters_in into in
    let count : length c.substitute_others.new.lines ≡ length c.basis.inside.firsts.items = c.substitute_others.auto.lines ∙ ap length c.deref_mut.ensures.value ∙ c.basis.invariant.lines_many in
    subst (λ l. c.index.result.now.class < length l) (sym (c.deref_mut-2.ensures.value ∙ sub_items)) (subst (λ n. c.index.result.now.class < n) (sym count) into_in)

pub index_mut-requires : goal.index_mut-requires
index_mut-requires c =
    let members = c.basis.inside.members.items in
    let firsts = c.basis.inside.firsts.items in
    let lines = c.basis.inside.lines.items in
    let outside = c.basis.inside.outside.items in
    let many : length c.args.basis.now ≡ length c.basis.inside.members.items = sym (ap length c.basis.view_is) ∙ slots_length (slot_of members lines outside) 0 members in
    let leaves_in : c.args.leaves < length c.basis.inside.members.items = subst (λ n. c.args.leaves < n) many c.requires.leaves in
    let enters_in : c.args.enters < length c.basis.inside.members.items = subst (λ n. c.args.enters < n) many c.requires.enters in
    let left : member_at members c.args.leaves ≡ c.index-2.result.now = read_is members c.args.leaves (record { class = 0; negated = false }) c.index-2.result.now leaves_in c.index-2.ensures in
    let left_in = class_in members firsts lines outside c.basis.invariant c.args.leaves c.index-2.result.now leaves_in left in
    let count = c.basis.invariant.outside_many in
    omega arith

pub invariant_of-basis-2 : goal.invariant_of-basis-2
invariant_of-basis-2 c =
    let members = c.basis.inside.members.items in
    let firsts = c.basis.inside.firsts.items in
    let lines = c.basis.inside.lines.items in
    let outside = c.basis.inside.outside.items in
    let many : length c.args.basis.now ≡ length c.basis.inside.members.items = sym (ap length c.basis.view_is) ∙ slots_length (slot_of members lines outside) 0 members in
    let leaves_in : c.args.leaves < length c.basis.inside.members.items = subst (λ n. c.args.leaves < n) many c.requires.leaves in
    let enters_in : c.args.enters < length c.basis.inside.members.items = subst (λ n. c.args.enters < n) many c.requires.enters in
    let left : member_at members c.args.leaves ≡ c.index-2.result.now = read_is members c.args.leaves (record { class = 0; negated = false }) c.index-2.result.now leaves_in c.index-2.ensures in
    let left_in = class_in members firsts lines outside c.basis.invariant c.args.leaves c.index-2.result.now leaves_in left in
    let into : member_at members c.args.enters ≡ c.index.result.now = read_is members c.args.enters (record { class = 0; negated = false }) c.index.result.now enters_in c.index.ensures in
    let sub_items = with_items_is c.basis.inside.lines c.substitute_others.new.lines (c.substitute_others.auto.lines ∙ c.deref_mut.ensures.len) in
    let put_items = with_items_is (with_items c.basis.inside.lines c.substitute_others.new.lines) c.put_line.new.lines (c.put_line.auto.lines ∙ c.deref_mut-2.ensures.len) in
    let zero = subst (λ s. IsSlotZero s c.args.leaves c.args.enters c.args.zero.now) (ap (λ b. slot_at b c.args.leaves) (sym c.basis.view_is)) c.requires.zero in
    let changed0 = subst (λ o. IfOk o (λ d. AreSubstituted c.args.enters c.args.zero.now (set c.deref_mut.result.now c.index-2.result.now.class None) c.substitute_others.new.lines)) c.in-Ok.is c.in_ok-substitute_others.ensures.done in
    let changed2 = subst (λ l. AreSubstituted c.args.enters c.args.zero.now (set l c.index-2.result.now.class None) c.substitute_others.new.lines) c.deref_mut.ensures.value changed0 in
    let changed = subst (λ (m : Member). AreSubstituted c.args.enters c.args.zero.now (set lines m.class None) c.substitute_others.new.lines) (sym left) changed2 in
    let line_is = c.in_ok-line.ensures.signed in
    let entered =
    c.put_line.ensures.lines ∙ ap (λ l. with_line c.index-2.result.now.class c.index.result.now.class l c.deref_mut-2.result.now) line_is
    ∙ ap (λ l. with_line c.index-2.result.now.class c.index.result.now.class (signed_terms c.index.result.now.negated c.in_ok-line.ensures.entering) l) (c.deref_mut-2.ensures.value ∙ sub_items)
    ∙ ap (λ (m : Member). with_line m.class c.index.result.now.class (signed_terms c.index.result.now.negated c.in_ok-line.ensures.entering) c.substitute_others.new.lines) (sym left)
    ∙ ap (λ (m : Member). with_line (member_at members c.args.leaves).class m.class (signed_terms m.negated c.in_ok-line.ensures.entering) c.substitute_others.new.lines) (sym into) in
    let fits : c.args.leaves < 2 ^ 64 - 1 = omega arith in
    let count = lines_count members firsts lines outside c.basis.invariant c.args.leaves c.args.enters c.args.zero.now c.in_ok-line.ensures.entering c.substitute_others.new.lines c.put_line.new.lines leaves_in enters_in c.requires.apart
    (subst (λ b. AreLines b) (sym c.basis.view_is) c.requires.lines) (ap (λ b. slot_at b c.args.enters) c.basis.view_is ∙ c.requires.outside) fits zero
    c.in_ok-line.ensures.is_entering changed entered in
    let after = classes_after members firsts lines outside c.basis.invariant c.put_line.new.lines c.args.leaves count leaves_in in
    let after' = subst (λ (m : Member). AreClasses members firsts c.put_line.new.lines (set outside m.class c.args.leaves)) left after in
    subst (λ l. AreClasses members firsts l (set outside c.index-2.result.now.class c.args.leaves)) (sym put_items) after'

pub returns-clause-done : goal.returns-clause-done
returns-clause-done c =
    let members = c.basis.inside.members.items in
    let firsts = c.basis.inside.firsts.items in
    let lines = c.basis.inside.lines.items in
    let outside = c.basis.inside.outside.items in
    let many : length c.args.basis.now ≡ length c.basis.inside.members.items = sym (ap length c.basis.view_is) ∙ slots_length (slot_of members lines outside) 0 members in
    let leaves_in : c.args.leaves < length c.basis.inside.members.items = subst (λ n. c.args.leaves < n) many c.requires.leaves in
    let enters_in : c.args.enters < length c.basis.inside.members.items = subst (λ n. c.args.enters < n) many c.requires.enters in
    let left : member_at members c.args.leaves ≡ c.index-2.result.now = read_is members c.args.leaves (record { class = 0; negated = false }) c.index-2.result.now leaves_in c.index-2.ensures in
    let left_in = class_in members firsts lines outside c.basis.invariant c.args.leaves c.index-2.result.now leaves_in left in
    let into : member_at members c.args.enters ≡ c.index.result.now = read_is members c.args.enters (record { class = 0; negated = false }) c.index.result.now enters_in c.index.ensures in
    let sub_items = with_items_is c.basis.inside.lines c.substitute_others.new.lines (c.substitute_others.auto.lines ∙ c.deref_mut.ensures.len) in
    let put_items = with_items_is (with_items c.basis.inside.lines c.substitute_others.new.lines) c.put_line.new.lines (c.put_line.auto.lines ∙ c.deref_mut-2.ensures.len) in
    let zero = subst (λ s. IsSlotZero s c.args.leaves c.args.enters c.args.zero.now) (ap (λ b. slot_at b c.args.leaves) (sym c.basis.view_is)) c.requires.zero in
    let changed0 = subst (λ o. IfOk o (λ d. AreSubstituted c.args.enters c.args.zero.now (set c.deref_mut.result.now c.index-2.result.now.class None) c.substitute_others.new.lines)) c.in-Ok.is c.in_ok-substitute_others.ensures.done in
    let changed2 = subst (λ l. AreSubstituted c.args.enters c.args.zero.now (set l c.index-2.result.now.class None) c.substitute_others.new.lines) c.deref_mut.ensures.value changed0 in
    let changed = subst (λ (m : Member). AreSubstituted c.args.enters c.args.zero.now (set lines m.class None) c.substitute_others.new.lines) (sym left) changed2 in
    let line_is = c.in_ok-line.ensures.signed in
    let entered =
    c.put_line.ensures.lines ∙ ap (λ l. with_line c.index-2.result.now.class c.index.result.now.class l c.deref_mut-2.result.now) line_is
    ∙ ap (λ l. with_line c.index-2.result.now.class c.index.result.now.class (signed_terms c.index.result.now.negated c.in_ok-line.ensures.entering) l) (c.deref_mut-2.ensures.value ∙ sub_items)
    ∙ ap (λ (m : Member). with_line m.class c.index.result.now.class (signed_terms c.index.result.now.negated c.in_ok-line.ensures.entering) c.substitute_others.new.lines) (sym left)
    ∙ ap (λ (m : Member). with_line (member_at members c.args.leaves).class m.class (signed_terms m.negated c.in_ok-line.ensures.entering) c.substitute_others.new.lines) (sym into) in
    let fits : c.args.leaves < 2 ^ 64 - 1 = omega arith in
    let pivoted = classes_pivoted members firsts lines outside c.basis.invariant c.args.leaves c.args.enters c.args.zero.now c.in_ok-line.ensures.entering c.substitute_others.new.lines c.put_line.new.lines leaves_in enters_in c.requires.apart
    (subst (λ b. AreLines b) (sym c.basis.view_is) c.requires.lines) (ap (λ b. slot_at b c.args.enters) c.basis.view_is ∙ c.requires.outside) fits zero
    c.in_ok-line.ensures.is_entering changed entered in
    let pivoted' = subst (λ (m : Member). IsPivoted (slots_of members lines outside) c.args.leaves c.args.enters (slots_of members c.put_line.new.lines (set outside m.class c.args.leaves))) left pivoted in
    let pivoted'' = subst (λ l. IsPivoted (slots_of members lines outside) c.args.leaves c.args.enters (slots_of members l (set outside c.index-2.result.now.class c.args.leaves))) (sym put_items) pivoted' in
    subst (λ b. IsPivoted b c.args.leaves c.args.enters (slots_of members (with_items (with_items c.basis.inside.lines c.substitute_others.new.lines) c.put_line.new.lines).items (set outside c.index-2.result.now.class c.args.leaves))) c.basis.view_is pivoted''

pub returns-clause-kept : goal.returns-clause-kept
returns-clause-kept c =
    let members = c.basis.inside.members.items in
    let firsts = c.basis.inside.firsts.items in
    let lines = c.basis.inside.lines.items in
    let outside = c.basis.inside.outside.items in
    let many : length c.args.basis.now ≡ length c.basis.inside.members.items = sym (ap length c.basis.view_is) ∙ slots_length (slot_of members lines outside) 0 members in
    let leaves_in : c.args.leaves < length c.basis.inside.members.items = subst (λ n. c.args.leaves < n) many c.requires.leaves in
    let left : member_at members c.args.leaves ≡ c.index-2.result.now = read_is members c.args.leaves (record { class = 0; negated = false }) c.index-2.result.now leaves_in c.index-2.ensures in
    let sub_items = with_items_is c.basis.inside.lines c.substitute_others.new.lines (c.substitute_others.auto.lines ∙ c.deref_mut.ensures.len) in
    let put_items = with_items_is (with_items c.basis.inside.lines c.substitute_others.new.lines) c.put_line.new.lines (c.put_line.auto.lines ∙ c.deref_mut-2.ensures.len) in
    let own = subst (λ m. AreOwn m c.args.kept.now.sums.items c.own.new.self.sums.items) c.deref.ensures.value c.own.ensures in
    let others0 = subst (λ o. IfOk o (λ d. OthersStay c.args.tableau.now c.index-2.result.now.class c.deref_mut.result.now c.substitute_others.new.lines c.own.new.self.sums.items c.substitute_others.new.kept.sums.items)) c.in-Ok.is c.in_ok-substitute_others.ensures.kept in
    let others = subst (λ l. OthersStay c.args.tableau.now c.index-2.result.now.class l c.substitute_others.new.lines c.own.new.self.sums.items c.substitute_others.new.kept.sums.items) c.deref_mut.ensures.value others0 in
    let put = subst (λ l. LinesStay c.args.tableau.now l c.put_line.new.lines c.substitute_others.new.kept.sums.items c.put_line.new.kept.sums.items) (c.deref_mut-2.ensures.value ∙ sub_items) (c.put_line.ensures.kept c.args.tableau.now) in
    let stay = slots_stay c.args.tableau.now members lines c.substitute_others.new.lines c.put_line.new.lines outside c.index-2.result.now.class c.args.leaves c.args.kept.now.sums.items c.own.new.self.sums.items c.substitute_others.new.kept.sums.items
    c.put_line.new.kept.sums.items own others put in
    let stay' = subst (λ l. SlotsStay c.args.tableau.now (slots_of members lines outside) (slots_of members l (set outside c.index-2.result.now.class c.args.leaves)) c.args.kept.now.sums.items c.put_line.new.kept.sums.items) (sym put_items) stay in
    subst (λ b. SlotsStay c.args.tableau.now b (slots_of members (with_items (with_items c.basis.inside.lines c.substitute_others.new.lines) c.put_line.new.lines).items (set outside c.index-2.result.now.class c.args.leaves)) c.args.kept.now.sums.items c.put_line.new.kept.sums.items) c.basis.view_is stay'
