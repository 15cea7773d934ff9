-- The slots of classes' members, and how a pivot changes them.
use Rattle.std.proofs.Common.{◌≡◌, ◌≢◌, zero, suc, ◌+◌, ◌-◌, ◌^◌, ◌<◌, ◌≤◌, arith, Bool, true, false, if◌then◌else◌, ◌==◌, List, ◌∷◌, ◌++◌, length, set, length-set, get_or, Option, Some, None, ap, sym, ◌∙◌, refl, subst, inl, inr, ℕ, []}
use Rattle.std.proofs.lemmas.Bool.{cases_lt}
use Rattle.std.proofs.lemmas.Bool.Decides.{nat_tests}
use Rattle.std.proofs.lemmas.List.{get_or_default, get_or_past, get_or-set_same, get_or-set_other}
use Rattle.std.proofs.lemmas.List.Elements.{All-cons, All-nil}
use Rattle.bt_frac.specs.Ratio.{Ratio, negated}
use Rattle.bt_farkas.specs.WeightedRows.{coefficient_at}
use Rattle.bt_linear_forms.specs.Lines.{one, Terms, HasNumber, signed_terms}
use Rattle.bt_pivot.specs.Classes.{differ, member_at, position_at, class_terms, slot_by, slot_of, slots_from, slots_of, AreClasses}
use Rattle.bt_pivot.specs.SolvedForms.{Slots, slot_at}
use Rattle.bt_pivot.specs.declared.basis.Member.{Member}
use Rattle.bt_pivot.specs.declared.causes.Cause.{Cause}
use Rattle.bt_pivot.specs.PivotedSlots.{AreLines, IsPivoted, IsUnfitPivot}
use Rattle.bt_pivot.specs.inner.PivotedSlots.{AreSubstituted, with_line}
use Rattle.bt_linear_forms.specs.Substituting.{IsSubstituted, IsEntering}
use Rattle.bt_pivot.specs.inner.UnfitPivots.{AreAlike, IsSlotZero, IsUnfitLine, entry_cause}
use Rattle.bt_linear_forms.proofs.NamedTerms.{number_later}
use Rattle.bt_linear_forms.proofs.Indicators.{decide}
use Rattle.bt_linear_forms.proofs.SignedLines.{negated_back, substituted_signed, leaving_substituted, entering_substituted, substituted_entering}
use Rattle.bt_pivot.proofs.UnfitPivots.{basis_same, slot_unfit}
use Rattle.bt_linear_forms.proofs.Zeros.{one_number}

signed_signed : (a b : Bool) (terms : Terms) → signed_terms a (signed_terms b terms) ≡ signed_terms (differ a b) terms
signed_signed false b terms = refl
signed_signed true false terms = refl
signed_signed true true terms = negated_back terms

-- the slots are as many as the positions, and each is what is said of its position
pub slots_length : (f : ℕ → Option Terms) (k : ℕ) (members : List Member) → length (slots_from f k members) ≡ length members
slots_length f k [] = refl
slots_length f k (m ∷ members) = let rest = slots_length f (k + 1) members in omega arith

slot_from : (f : ℕ → Option Terms) (k : ℕ) (members : List Member) (p : ℕ) → p < length members → slot_at (slots_from f k members) p ≡ f (k + p)
slot_from f k [] p h = absurd (omega arith)
slot_from f k (m ∷ members) zero h = ap f (let e : k ≡ k + zero = omega arith in e)
slot_from f k (m ∷ members) (suc p) h = slot_from f (k + 1) members p (omega arith) ∙ ap f (let e : k + 1 + p ≡ k + suc p = omega arith in e)

pub slots_along : (f g : ℕ → Option Terms) (k : ℕ) (members : List Member) → ((p : ℕ) → p < length members → f (k + p) ≡ g (k + p)) → slots_from f k members ≡ slots_from g k members
slots_along f g k [] same = refl
slots_along f g k (m ∷ members) same =
    let here : f k ≡ g k = ap f (let e : k ≡ k + 0 = omega arith in e) ∙ same 0 (omega arith) ∙ ap g (let e : k + 0 ≡ k = omega arith in e) in
    let rest = slots_along f g (k + 1) members (λ p h. ap f (let e : k + 1 + p ≡ k + suc p = omega arith in e) ∙ same (suc p) (omega arith) ∙ ap g (let e : k + suc p ≡ k + 1 + p = omega arith in e)) in
    ap (λ s. s ∷ slots_from f (k + 1) members) here ∙ ap (λ l. g k ∷ l) rest

pub slots_push : (f : ℕ → Option Terms) (k : ℕ) (members : List Member) (m : Member) → slots_from f k (members ++ m ∷ []) ≡ slots_from f k members ++ f (k + length members) ∷ []
slots_push f k [] m = ap (λ n. f n ∷ []) (let e : k ≡ k + 0 = omega arith in e)
slots_push f k (x ∷ members) m =
    ap (λ l. f k ∷ l) (slots_push f (k + 1) members m ∙ ap (λ n. slots_from f (k + 1) members ++ f n ∷ []) (let e : k + 1 + length members ≡ k + suc (length members) = omega arith in e))

pub slot_is : (members : List Member) (lines : Slots) (outside : List ℕ) (p : ℕ) → p < length members → slot_at (slots_of members lines outside) p ≡ slot_of members lines outside p
slot_is members lines outside p h = slot_from (slot_of members lines outside) 0 members p h ∙ ap (slot_of members lines outside) (let e : 0 + p ≡ p = omega arith in e)

pub slot_past : (members : List Member) (lines : Slots) (outside : List ℕ) (p : ℕ) → length members ≤ p → slot_at (slots_of members lines outside) p ≡ None
slot_past members lines outside p h =
    get_or_past (slots_of members lines outside) p None (subst (λ n. n ≤ p) (sym (slots_length (slot_of members lines outside) 0 members)) h)

apart_test : (p q : ℕ) → p ≢ q → (p == q) ≡ false
apart_test p q h = grind (arith, nat_tests)

same_test : (p q : ℕ) → p ≡ q → (p == q) ≡ true
same_test p q h = grind (arith, nat_tests)

-- what stands in a list at a place that was read
pub read_is : {X : Type 0} (xs : List X) (i : ℕ) (d x : X) → i < length xs → x ≡ get_or xs i x → get_or xs i d ≡ x
read_is xs i d x inside is = get_or_default xs i d x inside ∙ sym is

-- a slot by what is held of its class
pub by_line : (members : List Member) (line : Option Terms) (out p : ℕ) (terms : Terms) → line ≡ Some terms → slot_by members line out p ≡ Some (signed_terms (member_at members p).negated terms)
by_line members line out p terms e = ap (λ l. slot_by members l out p) e

pub by_other : (members : List Member) (line : Option Terms) (out p : ℕ) → line ≡ None → out ≢ p
    → slot_by members line out p ≡ Some (signed_terms (differ (member_at members p).negated (member_at members out).negated) ((out, one) ∷ []))
by_other members line out p e apart =
    ap (λ l. slot_by members l out p) e
    ∙ ap (λ b. if b then None else Some (class_terms members None out (member_at members p).negated)) (apart_test out p apart)

pub by_itself : (members : List Member) (line : Option Terms) (out p : ℕ) → line ≡ None → out ≡ p → slot_by members line out p ≡ None
by_itself members line out p e same =
    ap (λ l. slot_by members l out p) e
    ∙ ap (λ b. if b then None else Some (class_terms members None out (member_at members p).negated)) (same_test out p same)

-- and what is held of the class by the slot
none_of : (members : List Member) (line : Option Terms) (out p : ℕ) → slot_by members line out p ≡ None → (line ≡ None) × (out ≡ p)
none_of members (Some terms) out p e = absurd cc
none_of members None out p e = elim (decide out p) [
  | inl same ↦ (refl, same)
  | inr apart ↦ let some = by_other members None out p refl apart in absurd cc
]

some_of : (members : List Member) (line : Option Terms) (out p : ℕ) (terms : Terms) → slot_by members line out p ≡ Some terms → class_terms members line out (member_at members p).negated ≡ terms
some_of members (Some line) out p terms e = cc
some_of members None out p terms e = elim (decide out p) [
  | inl same ↦ let none = by_itself members None out p refl same in absurd cc
  | inr apart ↦ let some = by_other members None out p refl apart in let both : Some (class_terms members None out (member_at members p).negated) ≡ Some terms = sym some ∙ e in cc
]

-- the terms of two members of a class are the same up to their signs
class_signed : (members : List Member) (line : Option Terms) (out : ℕ) (a b : Bool) → class_terms members line out a ≡ signed_terms (differ a b) (class_terms members line out b)
class_signed members (Some terms) out a b = sym (signed_signed (differ a b) b terms ∙ ap (λ c. signed_terms c terms) (twice a b))
  where
    twice : (a b : Bool) → differ (differ a b) b ≡ a
    twice false false = refl
    twice false true = refl
    twice true false = refl
    twice true true = refl
class_signed members None out a b =
    sym
    (signed_signed (differ a b) (differ b (member_at members out).negated) ((out, one) ∷ [])
    ∙ ap (λ c. signed_terms c ((out, one) ∷ [])) (thrice a b (member_at members out).negated))
  where
    thrice : (a b c : Bool) → differ (differ a b) (differ b c) ≡ differ a c
    thrice false false false = refl
    thrice false false true = refl
    thrice false true false = refl
    thrice false true true = refl
    thrice true false false = refl
    thrice true false true = refl
    thrice true true false = refl
    thrice true true true = refl

pub some_by : (members : List Member) (line : Option Terms) (out p : ℕ) → slot_by members line out p ≢ None → slot_by members line out p ≡ Some (class_terms members line out (member_at members p).negated)
some_by members (Some terms) out p some = refl
some_by members None out p some = elim (decide out p) [ inl same ↦ absurd (some (by_itself members None out p refl same)) | inr apart ↦ by_other members None out p refl apart ]

lone_named : (b : Bool) (q enters : ℕ) (number : Ratio) → coefficient_at enters (signed_terms b ((q, one) ∷ [])) ≡ Some number → q ≡ enters
lone_named b q enters number named = elim (decide q enters) [ inl same ↦ same | inr apart ↦ let none = lacks b apart in absurd cc ]
  where
    lacks : (b : Bool) → q ≢ enters → coefficient_at enters (signed_terms b ((q, one) ∷ [])) ≡ None
    lacks false apart = number_later (q, one) [] enters apart
    lacks true apart = number_later (q, negated one) [] enters apart

lone_lacks : (b : Bool) (q enters : ℕ) → q ≢ enters → coefficient_at enters (signed_terms b ((q, one) ∷ [])) ≡ None
lone_lacks false q enters apart = number_later (q, one) [] enters apart
lone_lacks true q enters apart = number_later (q, negated one) [] enters apart

same_sign : (b : Bool) → differ b b ≡ false
same_sign false = refl
same_sign true = refl

-- what is changed stays a line
still : (enters : ℕ) (nil old : Terms) (new : Option Terms) → IsSubstituted enters nil (Some old) new → (terms : Terms) × (new ≡ Some terms)
still enters nil old new (inl h) = (old, h.1)
still enters nil old new (inr h) = (h.2.0, h.2.1)

module _ (members : List Member) (firsts : List ℕ) (lines : Slots) (outside : List ℕ) (are : AreClasses members firsts lines outside) where
  abbrev class_of : ℕ → ℕ
  class_of p = (member_at members p).class

  -- a class's line is that of its first position
  pub first_slot : (class : ℕ) (terms : Terms) → slot_at lines class ≡ Some terms → slot_at (slots_of members lines outside) (position_at firsts class) ≡ Some terms
  first_slot class terms e = elim (cases_lt class (length firsts)) [
    | inl within ↦
        let p : ℕ = position_at firsts class in
        let is = are.first_is class within in
        let line : slot_at lines (member_at members p).class ≡ Some terms = ap (λ (m : Member). slot_at lines m.class) is ∙ e in
        slot_is members lines outside p (are.first_within class within)
        ∙ by_line members (slot_at lines (member_at members p).class) (position_at outside (member_at members p).class) p terms line
        ∙ ap (λ (m : Member). Some (signed_terms m.negated terms)) is
    | inr past ↦ let none = get_or_past lines class None (subst (λ n. n ≤ class) (sym are.lines_many) past) in absurd cc
  ]

  -- a position's slot, by what is read of its class
  pub line_at : (p : ℕ) (m : Member) (terms : Terms) → p < length members → member_at members p ≡ m → slot_at lines m.class ≡ Some terms
      → slot_at (slots_of members lines outside) p ≡ Some (signed_terms m.negated terms)
  line_at p m terms within is line =
      slot_is members lines outside p within
      ∙ by_line members (slot_at lines (member_at members p).class) (position_at outside (member_at members p).class) p terms (ap (λ (n : Member). slot_at lines n.class) is ∙ line)
      ∙ ap (λ (n : Member). Some (signed_terms n.negated terms)) is

  pub like_at : (p : ℕ) (m : Member) (out : ℕ) (other : Member) → p < length members → member_at members p ≡ m → slot_at lines m.class ≡ None → position_at outside m.class ≡ out → out ≢ p
      → member_at members out ≡ other → slot_at (slots_of members lines outside) p ≡ Some (signed_terms (differ m.negated other.negated) ((out, one) ∷ []))
  like_at p m out other within is line out_is apart other_is =
      slot_is members lines outside p within
      ∙ ap (λ o. slot_by members (slot_at lines (member_at members p).class) o p) (ap (λ (n : Member). position_at outside n.class) is ∙ out_is)
      ∙ by_other members (slot_at lines (member_at members p).class) out p (ap (λ (n : Member). slot_at lines n.class) is ∙ line) apart
      ∙ ap (λ (n : Member). Some (signed_terms (differ n.negated (member_at members out).negated) ((out, one) ∷ []))) is
      ∙ ap (λ (n : Member). Some (signed_terms (differ m.negated n.negated) ((out, one) ∷ []))) other_is

  pub itself_at : (p : ℕ) (m : Member) (out : ℕ) → p < length members → member_at members p ≡ m → slot_at lines m.class ≡ None → position_at outside m.class ≡ out → out ≡ p
      → slot_at (slots_of members lines outside) p ≡ None
  itself_at p m out within is line out_is same =
      slot_is members lines outside p within
      ∙ ap (λ o. slot_by members (slot_at lines (member_at members p).class) o p) (ap (λ (n : Member). position_at outside n.class) is ∙ out_is)
      ∙ by_itself members (slot_at lines (member_at members p).class) out p (ap (λ (n : Member). slot_at lines n.class) is ∙ line) same

  pub class_in : (p : ℕ) (m : Member) → p < length members → member_at members p ≡ m → m.class < length firsts
  class_in p m within is = subst (λ (n : Member). n.class < length firsts) is (are.within p within)

  -- two positions of a class
  sibling : (p q : ℕ) (terms : Terms) → p < length members → q < length members → class_of p ≡ class_of q → slot_at (slots_of members lines outside) q ≡ Some terms
      → slot_of members lines outside p ≢ None
      → slot_of members lines outside p ≡ Some (signed_terms (differ (member_at members p).negated (member_at members q).negated) terms)
  sibling p q terms p_in q_in same e some =
      let line : Option Terms = slot_at lines (class_of q) in
      let out : ℕ = position_at outside (class_of q) in
      let moved : slot_of members lines outside p ≡ slot_by members line out p = ap (λ c. slot_by members (slot_at lines c) (position_at outside c) p) same in
      let own : class_terms members line out (member_at members q).negated ≡ terms = some_of members line out q terms (sym (slot_is members lines outside q q_in) ∙ e) in
      moved ∙ some_by members line out p (λ none. some (moved ∙ none))
      ∙ ap (λ l. Some l) (class_signed members line out (member_at members p).negated (member_at members q).negated ∙ ap (λ l. signed_terms (differ (member_at members p).negated (member_at members q).negated) l) own)

  module _ (leaves enters : ℕ) (nil entering : Terms) (lines' lines'' : Slots) (leaves_in : leaves < length members) (enters_in : enters < length members) (apart : leaves ≢ enters)
      (all : AreLines (slots_of members lines outside)) (out : slot_at (slots_of members lines outside) enters ≡ None) (fits : leaves < 2 ^ 64 - 1)
      (zero_is : IsSlotZero (slot_at (slots_of members lines outside) leaves) leaves enters nil) (entering_is : IsEntering enters nil entering)
      (are_changed : AreSubstituted enters nil (set lines (member_at members leaves).class None) lines')
      (entered : lines'' ≡ with_line (member_at members leaves).class (member_at members enters).class (signed_terms (member_at members enters).negated entering) lines') where
    abbrev left : ℕ
    left = class_of leaves

    abbrev into : ℕ
    into = class_of enters

    abbrev outside' : List ℕ
    outside' = set outside left leaves

    left_in : left < length lines
    left_in = subst (λ n. left < n) (sym are.lines_many) (are.within leaves leaves_in)

    into_in : into < length lines'
    into_in = subst (λ n. into < n) (sym (are_changed.same_length ∙ length-set lines left None ∙ are.lines_many)) (are.within enters enters_in)

    -- what is held of the classes afterwards
    left_none : slot_at lines'' left ≡ None
    left_none =
        let before : slot_at lines' left ≡ None =
        subst (λ old. IsSubstituted enters nil old (slot_at lines' left)) (get_or-set_same lines left None None left_in) (are_changed.each left) in
        elim (decide into left) [
          | inl same ↦ ap (λ l. slot_at l left) (entered ∙ ap (λ b. if b then lines' else set lines' into (Some (signed_terms (member_at members enters).negated entering))) (same_test into left same)) ∙ before
          | inr away ↦
              ap (λ l. slot_at l left) (entered ∙ ap (λ b. if b then lines' else set lines' into (Some (signed_terms (member_at members enters).negated entering))) (apart_test into left away))
              ∙ get_or-set_other lines' into left (Some (signed_terms (member_at members enters).negated entering)) None (λ e. away (sym e)) ∙ before
        ]

    into_line : into ≢ left → slot_at lines'' into ≡ Some (signed_terms (member_at members enters).negated entering)
    into_line away =
        ap (λ l. slot_at l into) (entered ∙ ap (λ b. if b then lines' else set lines' into (Some (signed_terms (member_at members enters).negated entering))) (apart_test into left away))
        ∙ get_or-set_same lines' into (Some (signed_terms (member_at members enters).negated entering)) None into_in

    other_line : (k : ℕ) → k ≢ left → k ≢ into → IsSubstituted enters nil (slot_at lines k) (slot_at lines'' k)
    other_line k not_left not_into =
        let here : IsSubstituted enters nil (slot_at lines k) (slot_at lines' k) =
        subst (λ old. IsSubstituted enters nil old (slot_at lines' k)) (get_or-set_other lines left k None None not_left) (are_changed.each k) in
        elim (decide into left) [
          | inl same ↦
              subst (λ l. IsSubstituted enters nil (slot_at lines k) (slot_at l k))
              (sym (entered ∙ ap (λ b. if b then lines' else set lines' into (Some (signed_terms (member_at members enters).negated entering))) (same_test into left same))) here
          | inr away ↦
              subst (λ l. IsSubstituted enters nil (slot_at lines k) (slot_at l k))
              (sym (entered ∙ ap (λ b. if b then lines' else set lines' into (Some (signed_terms (member_at members enters).negated entering))) (apart_test into left away)))
              (subst (λ o. IsSubstituted enters nil (slot_at lines k) o) (sym (get_or-set_other lines' into k (Some (signed_terms (member_at members enters).negated entering)) None not_into)) here)
        ]

    left_out : position_at outside' left ≡ leaves
    left_out = get_or-set_same outside left leaves 0 (subst (λ n. left < n) (sym are.outside_many) (are.within leaves leaves_in))

    other_out : (k : ℕ) → k ≢ left → position_at outside' k ≡ position_at outside k
    other_out k not_left = get_or-set_other outside left k leaves 0 not_left

    -- what the entering position was
    was : (slot_at lines into ≡ None) × (position_at outside into ≡ enters)
    was = none_of members (slot_at lines into) (position_at outside into) enters (sym (slot_is members lines outside enters enters_in) ∙ out)

    changed_leaving : IsSubstituted enters nil (Some zero_is.terms) (Some ((leaves, one) ∷ []))
    changed_leaving = leaving_substituted leaves enters zero_is.terms zero_is.number nil fits zero_is.is_line zero_is.named zero_is.is_zero

    of_left : (p : ℕ) → p < length members → p ≢ leaves → p ≢ enters → class_of p ≡ left → IsSubstituted enters nil (slot_of members lines outside p) (slot_of members lines'' outside' p)
    of_left p p_in not_leaves not_enters same =
        let sign : Bool = differ (member_at members p).negated (member_at members leaves).negated in
        let before : slot_of members lines outside p ≡ Some (signed_terms sign zero_is.terms) = sibling p leaves zero_is.terms p_in leaves_in same zero_is.slot_is in_basis in
        let after : slot_of members lines'' outside' p ≡ Some (signed_terms sign ((leaves, one) ∷ [])) =
        ap (λ c. slot_by members (slot_at lines'' c) (position_at outside' c) p) same
        ∙ ap (λ o. slot_by members (slot_at lines'' left) o p) left_out
        ∙ by_other members (slot_at lines'' left) leaves p left_none (λ e. not_leaves (sym e)) in
        subst (λ o. IsSubstituted enters nil o (slot_of members lines'' outside' p)) (sym before)
        (subst (λ o. IsSubstituted enters nil (Some (signed_terms sign zero_is.terms)) o) (sym after)
        (substituted_signed enters nil sign zero_is.terms ((leaves, one) ∷ []) zero_is.is_zero.line.numbers zero_is.is_line.numbers changed_leaving))
      where
        in_basis : slot_of members lines outside p ≢ None
        in_basis none =
            let held = none_of members (slot_at lines left) (position_at outside left) p (sym (ap (λ c. slot_by members (slot_at lines c) (position_at outside c) p) same) ∙ none) in
            let own : class_terms members (slot_at lines left) (position_at outside left) (member_at members leaves).negated ≡ zero_is.terms =
            some_of members (slot_at lines left) (position_at outside left) leaves zero_is.terms (sym (slot_is members lines outside leaves leaves_in) ∙ zero_is.slot_is) in
            let alone : signed_terms (differ (member_at members leaves).negated (member_at members (position_at outside left)).negated) ((position_at outside left, one) ∷ []) ≡ zero_is.terms =
            sym (ap (λ l. class_terms members l (position_at outside left) (member_at members leaves).negated) held.0) ∙ own in
            let named = ap (λ l. coefficient_at enters l) alone ∙ zero_is.named in
            not_enters (sym held.1 ∙ lone_named (differ (member_at members leaves).negated (member_at members (position_at outside left)).negated) (position_at outside left) enters zero_is.number named)

    of_into : (p : ℕ) → p ≢ enters → into ≢ left → class_of p ≡ into → IsSubstituted enters nil (slot_of members lines outside p) (slot_of members lines'' outside' p)
    of_into p not_enters away same =
        let sign : Bool = differ (member_at members p).negated (member_at members enters).negated in
        let before : slot_of members lines outside p ≡ Some (signed_terms sign ((enters, one) ∷ [])) =
        ap (λ c. slot_by members (slot_at lines c) (position_at outside c) p) same
        ∙ ap (λ o. slot_by members (slot_at lines into) o p) was.1
        ∙ by_other members (slot_at lines into) enters p was.0 (λ e. not_enters (sym e)) in
        let after : slot_of members lines'' outside' p ≡ Some (signed_terms sign entering) =
        ap (λ c. slot_by members (slot_at lines'' c) (position_at outside' c) p) same
        ∙ by_line members (slot_at lines'' into) (position_at outside' into) p (signed_terms (member_at members enters).negated entering) (into_line away)
        ∙ ap (λ l. Some l) (signed_signed (member_at members p).negated (member_at members enters).negated entering) in
        subst (λ o. IsSubstituted enters nil o (slot_of members lines'' outside' p)) (sym before)
        (subst (λ o. IsSubstituted enters nil (Some (signed_terms sign ((enters, one) ∷ []))) o) (sym after)
        (substituted_signed enters nil sign ((enters, one) ∷ []) entering zero_is.is_zero.line.numbers (All-cons HasNumber (enters, one) [] (one_number enters) (All-nil HasNumber))
        (entering_substituted enters nil entering entering_is)))

    of_other : (p : ℕ) → p < length members → class_of p ≢ left → class_of p ≢ into → IsSubstituted enters nil (slot_of members lines outside p) (slot_of members lines'' outside' p)
    of_other p p_in not_left not_into =
        subst (λ o. IsSubstituted enters nil (slot_of members lines outside p) (slot_by members (slot_at lines'' (class_of p)) o p)) (sym (other_out (class_of p) not_left))
        (at (slot_at lines (class_of p)) refl (slot_at lines'' (class_of p)) (other_line (class_of p) not_left not_into))
      where
        o : ℕ
        o = position_at outside (class_of p)

        at : (old : Option Terms) → slot_at lines (class_of p) ≡ old → (new : Option Terms) → IsSubstituted enters nil old new
            → IsSubstituted enters nil (slot_by members (slot_at lines (class_of p)) (position_at outside (class_of p)) p) (slot_by members new (position_at outside (class_of p)) p)
        at None e new is =
            subst (λ l. IsSubstituted enters nil (slot_by members l o p) (slot_by members new o p)) (sym e)
            (subst (λ l. IsSubstituted enters nil (slot_by members None o p) (slot_by members l o p)) (sym is)
            (elim (decide o p) [
              | inl same ↦ subst (λ s. IsSubstituted enters nil s s) (sym (by_itself members None o p refl same)) refl
              | inr away ↦
                  subst (λ s. IsSubstituted enters nil s s) (sym (by_other members None o p refl away))
                  (inl (lone_lacks (differ (member_at members p).negated (member_at members o).negated) o enters not_enters, refl))
            ]))
          where
            not_enters : o ≢ enters
            not_enters same = not_into (sym (are.outside_is (class_of p) (are.within p p_in)) ∙ ap (λ q. class_of q) same)
        at (Some old) e new is =
            let new_is = still enters nil old new is in
            let line = all (position_at firsts (class_of p)) old (first_slot (class_of p) old e) in
            subst (λ l. IsSubstituted enters nil (slot_by members l o p) (slot_by members new o p)) (sym e)
            (subst (λ l. IsSubstituted enters nil (slot_by members (Some old) o p) (slot_by members l o p)) (sym new_is.1)
            (substituted_signed enters nil (member_at members p).negated old new_is.0 zero_is.is_zero.line.numbers line.numbers (subst (λ n. IsSubstituted enters nil (Some old) n) new_is.1 is)))

    others : (p : ℕ) → p ≢ leaves → p ≢ enters → IsSubstituted enters nil (slot_at (slots_of members lines outside) p) (slot_at (slots_of members lines'' outside') p)
    others p not_leaves not_enters = elim (cases_lt p (length members)) [
      | inl within ↦
          subst (λ s. IsSubstituted enters nil s (slot_at (slots_of members lines'' outside') p)) (sym (slot_is members lines outside p within))
          (subst (λ s. IsSubstituted enters nil (slot_of members lines outside p) s) (sym (slot_is members lines'' outside' p within))
          (elim (decide (class_of p) left) [
            | inl same ↦ of_left p within not_leaves not_enters same
            | inr not_left ↦ elim (decide (class_of p) into) [
              | inl same ↦ of_into p not_enters (λ e. not_left (same ∙ e)) same
              | inr not_into ↦ of_other p within not_left not_into
            ]
          ]))
      | inr past ↦
          subst (λ s. IsSubstituted enters nil s (slot_at (slots_of members lines'' outside') p)) (sym (slot_past members lines outside p past)) (slot_past members lines'' outside' p past)
    ]

    left_slot : slot_at (slots_of members lines'' outside') leaves ≡ None
    left_slot =
        slot_is members lines'' outside' leaves leaves_in ∙ by_itself members (slot_at lines'' left) (position_at outside' left) leaves left_none left_out

    entering_slot : (terms' : Terms) × (slot_at (slots_of members lines'' outside') enters ≡ Some terms') × IsEntering enters nil terms'
    entering_slot = elim (decide into left) [
      | inl same ↦
          let sign : Bool = differ (member_at members enters).negated (member_at members leaves).negated in
          let slot : slot_at (slots_of members lines'' outside') enters ≡ Some (signed_terms sign ((leaves, one) ∷ [])) =
          slot_is members lines'' outside' enters enters_in
          ∙ ap (λ c. slot_by members (slot_at lines'' c) (position_at outside' c) enters) same
          ∙ ap (λ o. slot_by members (slot_at lines'' left) o enters) left_out
          ∙ by_other members (slot_at lines'' left) leaves enters left_none apart in
          let own : class_terms members (slot_at lines into) (position_at outside into) (member_at members leaves).negated ≡ zero_is.terms =
          some_of members (slot_at lines into) (position_at outside into) leaves zero_is.terms
          (ap (λ c. slot_by members (slot_at lines c) (position_at outside c) leaves) same ∙ sym (slot_is members lines outside leaves leaves_in) ∙ zero_is.slot_is) in
          let back : signed_terms (differ (member_at members leaves).negated (member_at members enters).negated) ((enters, one) ∷ []) ≡ zero_is.terms =
          sym
          (ap (λ l. class_terms members l (position_at outside into) (member_at members leaves).negated) was.0 ∙ ap (λ o. class_terms members None o (member_at members leaves).negated) was.1) ∙ own in
          let unit : signed_terms sign zero_is.terms ≡ (enters, one) ∷ [] =
          ap (λ l. signed_terms sign l) (sym back)
          ∙ signed_signed sign (differ (member_at members leaves).negated (member_at members enters).negated) ((enters, one) ∷ [])
          ∙ ap (λ b. signed_terms b ((enters, one) ∷ [])) (both_ways (member_at members enters).negated (member_at members leaves).negated) in
          let changed = substituted_signed enters nil sign zero_is.terms ((leaves, one) ∷ []) zero_is.is_zero.line.numbers zero_is.is_line.numbers changed_leaving in (
            signed_terms sign ((leaves, one) ∷ []),
            slot,
            substituted_entering enters nil (signed_terms sign ((leaves, one) ∷ [])) (subst (λ l. IsSubstituted enters nil (Some l) (Some (signed_terms sign ((leaves, one) ∷ [])))) unit changed),
          )
      | inr away ↦ (
        entering,
        slot_is members lines'' outside' enters enters_in
            ∙ by_line members (slot_at lines'' into) (position_at outside' into) enters (signed_terms (member_at members enters).negated entering) (into_line away)
            ∙ ap (λ l. Some l) (signed_signed (member_at members enters).negated (member_at members enters).negated entering
            ∙ ap (λ b. signed_terms b entering) (same_sign (member_at members enters).negated)),
        entering_is,
      )
    ]
      where
        both_ways : (a b : Bool) → differ (differ a b) (differ b a) ≡ false
        both_ways false false = refl
        both_ways false true = refl
        both_ways true false = refl
        both_ways true true = refl

    pub classes_pivoted : IsPivoted (slots_of members lines outside) leaves enters (slots_of members lines'' (set outside (member_at members leaves).class leaves))
    classes_pivoted = record {
      same_length = slots_length (slot_of members lines'' outside') 0 members ∙ sym (slots_length (slot_of members lines outside) 0 members);
      terms = zero_is.terms;
      leaving = zero_is.slot_is;
      number = zero_is.number;
      is_number = zero_is.named;
      zero = nil;
      is_zero = zero_is.is_zero;
      others = others;
      left = left_slot;
      entering = entering_slot.0;
      entered = entering_slot.1;
      is_entering = entering_slot.2;
    }

    pub lines_count : length lines'' ≡ length firsts
    lines_count = elim (decide into left) [
      | inl same ↦
          ap length (entered ∙ ap (λ b. if b then lines' else set lines' into (Some (signed_terms (member_at members enters).negated entering))) (same_test into left same)) ∙ count
      | inr away ↦
          ap length (entered ∙ ap (λ b. if b then lines' else set lines' into (Some (signed_terms (member_at members enters).negated entering))) (apart_test into left away))
          ∙ length-set lines' into (Some (signed_terms (member_at members enters).negated entering)) ∙ count
    ]
      where
        count : length lines' ≡ length firsts
        count = are_changed.same_length ∙ length-set lines left None ∙ are.lines_many

  -- the classes after a pivot
  pub classes_after : (lines' : Slots) (leaves : ℕ) → length lines' ≡ length firsts → leaves < length members → AreClasses members firsts lines' (set outside (member_at members leaves).class leaves)
  classes_after lines' leaves count leaves_in = record {
    lines_many = count;
    outside_many = length-set outside (class_of leaves) leaves ∙ are.outside_many;
    within = are.within;
    first_within = are.first_within;
    first_is = are.first_is;
    outside_within = λ k h. elim (decide k (class_of leaves)) [
      | inl same ↦ subst (λ q. q < length members) (sym (ap (λ c. position_at (set outside (class_of leaves) leaves) c) same ∙ here)) leaves_in
      | inr away ↦ subst (λ q. q < length members) (sym (get_or-set_other outside (class_of leaves) k leaves 0 away)) (are.outside_within k h)
    ];
    outside_is = λ k h. elim (decide k (class_of leaves)) [
      | inl same ↦ ap (λ q. class_of q) (ap (λ c. position_at (set outside (class_of leaves) leaves) c) same ∙ here) ∙ sym same
      | inr away ↦ ap (λ q. class_of q) (get_or-set_other outside (class_of leaves) k leaves 0 away) ∙ are.outside_is k h
    ];
  }
    where
      here : position_at (set outside (class_of leaves) leaves) (class_of leaves) ≡ leaves
      here = get_or-set_same outside (class_of leaves) leaves 0 (subst (λ n. class_of leaves < n) (sym are.outside_many) (are.within leaves leaves_in))

  -- an operation that doesn't fit in a class's line
  pub classes_unfit : (leaves enters : ℕ) (nil : Terms) (lines' : Slots) (cause : Cause) → leaves < length members → leaves ≢ enters
      → IsSlotZero (slot_at (slots_of members lines outside) leaves) leaves enters nil → IsUnfitLine (member_at members leaves).class enters nil lines lines' cause
      → (cause' : Cause) → cause' ≡ record cause { row = position_at firsts cause.row }
      → IsUnfitPivot (slots_of members lines outside) leaves enters (slots_of members lines' outside) cause'
  classes_unfit leaves enters nil lines' cause leaves_in apart zero_is unfit cause' is =
      let row : ℕ = position_at firsts cause.row in
      let made =
      slot_unfit (slots_of members lines outside) leaves enters zero_is.terms zero_is.number nil row unfit.terms unfit.number unfit.unfit zero_is.slot_is zero_is.named zero_is.is_zero apart zero_is.is_line zero_is.lacks
      other (first_slot cause.row unfit.terms unfit.line) unfit.named unfit.is_unfit in
      let whole : cause' ≡ entry_cause row unfit.unfit = is ∙ ap (λ (c : Cause). record c { row = row }) unfit.cause_is in
      subst (λ (c : Cause). IsUnfitPivot (slots_of members lines outside) leaves enters (slots_of members lines' outside) c) (sym whole)
      (record {
        same_basis = basis_same 0 (slots_of members lines' outside) (slots_of members lines outside) (record {
          same_length = slots_length (slot_of members lines' outside) 0 members ∙ sym (slots_length (slot_of members lines outside) 0 members);
          alike = alike_at;
        });
        place = refl;
        none = made.0;
        step = made.1;
      })
    where
      within : cause.row < length firsts
      within = elim (cases_lt cause.row (length firsts)) [
        | inl h ↦ h
        | inr past ↦ let none = get_or_past lines cause.row None (subst (λ n. n ≤ cause.row) (sym are.lines_many) past) in let some = unfit.line in absurd cc
      ]

      other : position_at firsts cause.row ≢ leaves
      other same = unfit.apart (sym (ap (λ (m : Member). m.class) (are.first_is cause.row within)) ∙ ap (λ q. class_of q) same)

      by_alike : (a b : Option Terms) (o p : ℕ) → AreAlike a b → AreAlike (slot_by members a o p) (slot_by members b o p)
      by_alike None None o p h = itself (slot_by members None o p)
        where
          itself : (slot : Option Terms) → AreAlike slot slot
          itself None = tt
          itself (Some terms) = tt
      by_alike None (Some b) o p h = absurd h
      by_alike (Some a) None o p h = absurd h
      by_alike (Some a) (Some b) o p h = tt

      alike_at : (p : ℕ) → AreAlike (slot_at (slots_of members lines' outside) p) (slot_at (slots_of members lines outside) p)
      alike_at p = elim (cases_lt p (length members)) [
        | inl h ↦
            subst (λ s. AreAlike s (slot_at (slots_of members lines outside) p)) (sym (slot_is members lines' outside p h))
            (subst (λ s. AreAlike (slot_of members lines' outside p) s) (sym (slot_is members lines outside p h))
            (by_alike (slot_at lines' (class_of p)) (slot_at lines (class_of p)) (position_at outside (class_of p)) p (unfit.same_basis.alike (class_of p))))
        | inr past ↦
            subst (λ s. AreAlike s (slot_at (slots_of members lines outside) p)) (sym (slot_past members lines' outside p past))
            (subst (λ s. AreAlike None s) (sym (slot_past members lines outside p past)) tt)
      ]
