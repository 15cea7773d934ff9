-- One more position, in a class of its own or in one that there is.
use Rattle.std.proofs.Common.{◌≡◌, ◌≢◌, ◌+◌, ◌<◌, arith, Bool, false, if◌then◌else◌, List, ◌∷◌, ◌++◌, length, length-append, Option, Some, None, ap, sym, ◌∙◌, refl, subst, ◌⊎◌, inl, inr, ℕ, []}
use Rattle.std.proofs.lemmas.Bool.{cases_lt}
use Rattle.std.proofs.lemmas.List.{get_or_append_left, get_or_push}
use Rattle.bt_linear_forms.specs.Lines.{one, Terms, signed_terms}
use Rattle.bt_pivot.specs.Classes.{differ, member_at, position_at, class_terms, is_outside, slot_by, slot_of, slots_of, AreClasses}
use Rattle.bt_pivot.specs.SolvedForms.{Slots, slot_at}
use Rattle.bt_pivot.specs.declared.basis.Member.{Member}
use Rattle.bt_pivot.proofs.Classes.{slots_along, slots_push, by_line, by_other, by_itself, some_by}

longer : {X : Type 0} (xs : List X) (x : X) → length (xs ++ x ∷ []) ≡ length xs + 1
longer xs x = length-append xs (x ∷ [])

-- a place of a longer list
older : {X : Type 0} (xs : List X) (x : X) (i : ℕ) → i < length (xs ++ x ∷ []) → (i < length xs) ⊎ (i ≡ length xs)
older xs x i h = elim (cases_lt i (length xs)) [ inl low ↦ inl low | inr past ↦ inr (let e = longer xs x in omega arith) ]

kept_low : {X : Type 0} (xs : List X) (x : X) (i : ℕ) → i < length xs → i < length (xs ++ x ∷ [])
kept_low xs x i h = let e = longer xs x in omega arith

last_low : {X : Type 0} (xs : List X) (x : X) (i : ℕ) → i ≡ length xs → i < length (xs ++ x ∷ [])
last_low xs x i h = let e = longer xs x in omega arith

module _ (members : List Member) (firsts : List ℕ) (lines : Slots) (outside : List ℕ) (are : AreClasses members firsts lines outside) (m : Member) where
  member_kept : (q : ℕ) → q < length members → member_at (members ++ m ∷ []) q ≡ member_at members q
  member_kept q h = get_or_append_left members (m ∷ []) (record { class = 0; negated = false }) q h

  member_last : member_at (members ++ m ∷ []) (length members) ≡ m
  member_last = get_or_push members m (record { class = 0; negated = false }) (length members) refl

  terms_kept : (line : Option Terms) (out : ℕ) (told : Bool) → out < length members → class_terms (members ++ m ∷ []) line out told ≡ class_terms members line out told
  terms_kept (Some terms) out told h = refl
  terms_kept None out told h = ap (λ (n : Member). signed_terms (differ told n.negated) ((out, one) ∷ [])) (member_kept out h)

  -- what the earlier positions have
  slot_kept : (lines' : Slots) (outside' : List ℕ) → ((k : ℕ) → k < length firsts → slot_at lines' k ≡ slot_at lines k) → ((k : ℕ) → k < length firsts → position_at outside' k ≡ position_at outside k)
      → (q : ℕ) → q < length members → slot_of (members ++ m ∷ []) lines' outside' q ≡ slot_of members lines outside q
  slot_kept lines' outside' same_lines same_outside q h =
      let k : ℕ = (member_at members q).class in
      let within = are.within q h in
      let line : Option Terms = slot_at lines k in
      let out : ℕ = position_at outside k in
      ap (λ (n : Member). slot_by (members ++ m ∷ []) (slot_at lines' n.class) (position_at outside' n.class) q) (member_kept q h)
      ∙ ap (λ l. slot_by (members ++ m ∷ []) l (position_at outside' k) q) (same_lines k within)
      ∙ ap (λ o. slot_by (members ++ m ∷ []) line o q) (same_outside k within)
      ∙ ap (λ (n : Member). if is_outside line out q then None else Some (class_terms (members ++ m ∷ []) line out n.negated)) (member_kept q h)
      ∙ ap (λ l. if is_outside line out q then None else Some l) (terms_kept line out (member_at members q).negated (are.outside_within k within))

  grown : (lines' : Slots) (outside' : List ℕ) (slot : Option Terms) → ((k : ℕ) → k < length firsts → slot_at lines' k ≡ slot_at lines k)
      → ((k : ℕ) → k < length firsts → position_at outside' k ≡ position_at outside k) → slot_of (members ++ m ∷ []) lines' outside' (length members) ≡ slot
      → slots_of (members ++ m ∷ []) lines' outside' ≡ slots_of members lines outside ++ slot ∷ []
  grown lines' outside' slot same_lines same_outside last =
      slots_push (slot_of (members ++ m ∷ []) lines' outside') 0 members m
      ∙ ap (λ l. l ++ slot_of (members ++ m ∷ []) lines' outside' (0 + length members) ∷ [])
      (slots_along (slot_of (members ++ m ∷ []) lines' outside') (slot_of members lines outside) 0 members
      (λ q h.
      ap (slot_of (members ++ m ∷ []) lines' outside') (let e : 0 + q ≡ q = omega arith in e) ∙ slot_kept lines' outside' same_lines same_outside q h
      ∙ ap (slot_of members lines outside) (let e : q ≡ 0 + q = omega arith in e)))
      ∙ ap (λ s. slots_of members lines outside ++ s ∷ []) (ap (slot_of (members ++ m ∷ []) lines' outside') (let e : 0 + length members ≡ length members = omega arith in e) ∙ last)

-- in a class of its own
module _ (members : List Member) (firsts : List ℕ) (lines : Slots) (outside : List ℕ) (are : AreClasses members firsts lines outside) (slot : Option Terms) where
  abbrev own : Member
  own = record { class = length firsts; negated = false }

  line_last : slot_at (lines ++ slot ∷ []) (length firsts) ≡ slot
  line_last = get_or_push lines slot None (length firsts) are.lines_many

  outside_last : position_at (outside ++ length members ∷ []) (length firsts) ≡ length members
  outside_last = get_or_push outside (length members) 0 (length firsts) are.outside_many

  line_kept : (k : ℕ) → k < length firsts → slot_at (lines ++ slot ∷ []) k ≡ slot_at lines k
  line_kept k h = get_or_append_left lines (slot ∷ []) None k (subst (λ n. k < n) (sym are.lines_many) h)

  outside_kept : (k : ℕ) → k < length firsts → position_at (outside ++ length members ∷ []) k ≡ position_at outside k
  outside_kept k h = get_or_append_left outside (length members ∷ []) 0 k (subst (λ n. k < n) (sym are.outside_many) h)

  first_kept : (k : ℕ) → k < length firsts → position_at (firsts ++ length members ∷ []) k ≡ position_at firsts k
  first_kept k h = get_or_append_left firsts (length members ∷ []) 0 k h

  first_last : position_at (firsts ++ length members ∷ []) (length firsts) ≡ length members
  first_last = get_or_push firsts (length members) 0 (length firsts) refl

  member_own : member_at (members ++ (record { class = length firsts; negated = false }) ∷ []) (length members) ≡ record { class = length firsts; negated = false }
  member_own = member_last members firsts lines outside are own

  own_slot : slot_of (members ++ (record { class = length firsts; negated = false }) ∷ []) (lines ++ slot ∷ []) (outside ++ length members ∷ []) (length members) ≡ slot
  own_slot =
      ap (λ (n : Member). slot_by (members ++ own ∷ []) (slot_at (lines ++ slot ∷ []) n.class) (position_at (outside ++ length members ∷ []) n.class) (length members)) member_own
      ∙ ap (λ l. slot_by (members ++ own ∷ []) l (position_at (outside ++ length members ∷ []) (length firsts)) (length members)) line_last
      ∙ ap (λ o. slot_by (members ++ own ∷ []) slot o (length members)) outside_last ∙ at slot
    where
      at : (s : Option Terms) → slot_by (members ++ own ∷ []) s (length members) (length members) ≡ s
      at None = by_itself (members ++ own ∷ []) None (length members) (length members) refl refl
      at (Some terms) = by_line (members ++ own ∷ []) (Some terms) (length members) (length members) terms refl ∙ ap (λ (n : Member). Some (signed_terms n.negated terms)) member_own

  pub own_grown : slots_of (members ++ (record { class = length firsts; negated = false }) ∷ []) (lines ++ slot ∷ []) (outside ++ length members ∷ []) ≡ slots_of members lines outside ++ slot ∷ []
  own_grown = grown members firsts lines outside are own (lines ++ slot ∷ []) (outside ++ length members ∷ []) slot line_kept outside_kept own_slot

  pub own_classes : AreClasses (members ++ (record { class = length firsts; negated = false }) ∷ []) (firsts ++ length members ∷ []) (lines ++ slot ∷ []) (outside ++ length members ∷ [])
  own_classes = record {
    lines_many = longer lines slot ∙ ap (λ n. n + 1) are.lines_many ∙ sym (longer firsts (length members));
    outside_many = longer outside (length members) ∙ ap (λ n. n + 1) are.outside_many ∙ sym (longer firsts (length members));
    within = λ q h. elim (older members own q h) [
      | inl low ↦
          subst (λ (n : Member). n.class < length (firsts ++ length members ∷ [])) (sym (member_kept members firsts lines outside are own q low))
          (kept_low firsts (length members) (member_at members q).class (are.within q low))
      | inr last ↦
          subst (λ (n : Member). n.class < length (firsts ++ length members ∷ [])) (sym (ap (λ i. member_at (members ++ own ∷ []) i) last ∙ member_own)) (last_low firsts (length members) (length firsts) refl)
    ];
    first_within = λ k h. elim (older firsts (length members) k h) [
      | inl low ↦ subst (λ q. q < length (members ++ own ∷ [])) (sym (first_kept k low)) (kept_low members own (position_at firsts k) (are.first_within k low))
      | inr last ↦
          subst (λ q. q < length (members ++ own ∷ [])) (sym (ap (λ i. position_at (firsts ++ length members ∷ []) i) last ∙ first_last)) (last_low members own (length members) refl)
    ];
    first_is = λ k h. elim (older firsts (length members) k h) [
      | inl low ↦
          ap (λ q. member_at (members ++ own ∷ []) q) (first_kept k low) ∙ member_kept members firsts lines outside are own (position_at firsts k) (are.first_within k low) ∙ are.first_is k low
      | inr last ↦
          ap (λ q. member_at (members ++ own ∷ []) q) (ap (λ i. position_at (firsts ++ length members ∷ []) i) last ∙ first_last) ∙ member_own
          ∙ ap (λ (i : ℕ). make i) (sym last)
    ];
    outside_within = λ k h. elim (older firsts (length members) k h) [
      | inl low ↦ subst (λ q. q < length (members ++ own ∷ [])) (sym (outside_kept k low)) (kept_low members own (position_at outside k) (are.outside_within k low))
      | inr last ↦
          subst (λ q. q < length (members ++ own ∷ [])) (sym (ap (λ i. position_at (outside ++ length members ∷ []) i) last ∙ outside_last)) (last_low members own (length members) refl)
    ];
    outside_is = λ k h. elim (older firsts (length members) k h) [
      | inl low ↦
          ap (λ q. (member_at (members ++ own ∷ []) q).class) (outside_kept k low)
          ∙ ap (λ (n : Member). n.class) (member_kept members firsts lines outside are own (position_at outside k) (are.outside_within k low)) ∙ are.outside_is k low
      | inr last ↦
          ap (λ q. (member_at (members ++ own ∷ []) q).class) (ap (λ i. position_at (outside ++ length members ∷ []) i) last ∙ outside_last)
          ∙ ap (λ (n : Member). n.class) member_own ∙ sym last
    ];
  }
    where
      make : ℕ → Member
      make i = record { class = i; negated = false }

-- in a class that there is
module _ (members : List Member) (firsts : List ℕ) (lines : Slots) (outside : List ℕ) (are : AreClasses members firsts lines outside) (class : ℕ) (told : Bool) (terms : Terms)
    (inside : class < length lines) (sign : class_terms members (slot_at lines class) (position_at outside class) told ≡ terms) where
  abbrev joined : Member
  joined = record { class = class; negated = told }

  class_in : class < length firsts
  class_in = subst (λ n. class < n) are.lines_many inside

  joined_last : member_at (members ++ (record { class = class; negated = told }) ∷ []) (length members) ≡ record { class = class; negated = told }
  joined_last = member_last members firsts lines outside are joined

  not_outside : (line : Option Terms) → slot_by (members ++ (record { class = class; negated = told }) ∷ []) line (position_at outside class) (length members) ≢ None
  not_outside (Some line) none = cc
  not_outside None none =
      let low = are.outside_within class class_in in
      let away : position_at outside class ≢ length members = λ e. omega arith in
      let some = by_away (members ++ joined ∷ []) (position_at outside class) (length members) away in
      let both : None ≡ Some some.0 = sym none ∙ some.1 in
      cc
    where
      by_away : (members' : List Member) (out p : ℕ) → out ≢ p → (ts : Terms) × (slot_by members' None out p ≡ Some ts)
      by_away members' out p away = (class_terms members' None out (member_at members' p).negated, by_other members' None out p refl away)

  joined_slot : slot_of (members ++ (record { class = class; negated = told }) ∷ []) lines outside (length members) ≡ Some terms
  joined_slot =
      let line : Option Terms = slot_at lines class in
      let out : ℕ = position_at outside class in
      ap (λ (n : Member). slot_by (members ++ joined ∷ []) (slot_at lines n.class) (position_at outside n.class) (length members)) joined_last
      ∙ some_by (members ++ joined ∷ []) line out (length members) (not_outside line)
      ∙ ap (λ (n : Member). Some (class_terms (members ++ joined ∷ []) line out n.negated)) joined_last
      ∙ ap (λ l. Some l) (terms_kept members firsts lines outside are joined line out told (are.outside_within class class_in) ∙ sign)

  pub joined_grown : slots_of (members ++ (record { class = class; negated = told }) ∷ []) lines outside ≡ slots_of members lines outside ++ Some terms ∷ []
  joined_grown = grown members firsts lines outside are joined lines outside (Some terms) (λ k h. refl) (λ k h. refl) joined_slot

  pub joined_classes : AreClasses (members ++ (record { class = class; negated = told }) ∷ []) firsts lines outside
  joined_classes = record {
    lines_many = are.lines_many;
    outside_many = are.outside_many;
    within = λ q h. elim (older members joined q h) [
      | inl low ↦ subst (λ (n : Member). n.class < length firsts) (sym (member_kept members firsts lines outside are joined q low)) (are.within q low)
      | inr last ↦ subst (λ (n : Member). n.class < length firsts) (sym (ap (λ i. member_at (members ++ joined ∷ []) i) last ∙ joined_last)) class_in
    ];
    first_within = λ k h. kept_low members joined (position_at firsts k) (are.first_within k h);
    first_is = λ k h. member_kept members firsts lines outside are joined (position_at firsts k) (are.first_within k h) ∙ are.first_is k h;
    outside_within = λ k h. kept_low members joined (position_at outside k) (are.outside_within k h);
    outside_is = λ k h. ap (λ (n : Member). n.class) (member_kept members firsts lines outside are joined (position_at outside k) (are.outside_within k h)) ∙ are.outside_is k h;
  }

-- the same of lists that are told
pub own_made : (members : List Member) (firsts : List ℕ) (lines : Slots) (outside : List ℕ) → AreClasses members firsts lines outside → (slot : Option Terms) (members' : List Member)
    (firsts' : List ℕ) (lines' : Slots) (outside' : List ℕ) (class position : ℕ) → class ≡ length firsts → position ≡ length members
    → members' ≡ members ++ (record { class = class; negated = false }) ∷ [] → firsts' ≡ firsts ++ position ∷ [] → lines' ≡ lines ++ slot ∷ [] → outside' ≡ outside ++ position ∷ []
    → (slots_of members' lines' outside' ≡ slots_of members lines outside ++ slot ∷ []) × AreClasses members' firsts' lines' outside'
own_made members firsts lines outside are slot members' firsts' lines' outside' class position class_is position_is members_is firsts_is lines_is outside_is =
    rw (members_is, firsts_is, lines_is, outside_is, class_is, position_is) (own_grown members firsts lines outside are slot, own_classes members firsts lines outside are slot)

pub joined_made : (members : List Member) (firsts : List ℕ) (lines : Slots) (outside : List ℕ) → AreClasses members firsts lines outside → (class : ℕ) (told : Bool) (terms : Terms) (members' : List Member)
    → class < length lines → class_terms members (slot_at lines class) (position_at outside class) told ≡ terms → members' ≡ members ++ (record { class = class; negated = told }) ∷ []
    → (slots_of members' lines outside ≡ slots_of members lines outside ++ Some terms ∷ []) × AreClasses members' firsts lines outside
joined_made members firsts lines outside are class told terms members' inside sign members_is =
    rw (members_is) (joined_grown members firsts lines outside are class told terms inside sign, joined_classes members firsts lines outside are class told terms inside sign)
