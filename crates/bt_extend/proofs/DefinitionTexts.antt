-- The line of a definition: what is read of it.
use Rattle.std.proofs.Common.{◌≡◌, ◌==◌, ℕ, ◌+◌, Bool, false, List, [], ◌∷◌, ◌++◌, length, Option, Some, None, Result, Ok, Err, IfOk, MatchOption, refl, sym, ◌∙◌, ap, subst, inl, inr, arith, append-nil}
use Rattle.std.specs.Fmt.{decimal}
use Rattle.std.proofs.lemmas.Bool.{false≢true}
use Rattle.std.specs.List.{All}
use Rattle.bt_text.proofs.Pieces.{piece_is}
use Rattle.bt_log.specs.LogText.{words}
use Rattle.bt_extend.specs.Forms.{FormParts}
use Rattle.bt_extend.specs.Items.{LeadsToItem, LeadsToNone, HaveNoSpace, StopsAfter}
use Rattle.bt_extend.specs.Texts.{form_text, named_text, IsNumbered, IsDefinitionRead}
use Rattle.bt_extend.specs.Words.{IsNumber, IsWrittenLit, written_lit_text}
use Rattle.bt_extend.specs.declared.definition.NamedLit.{NamedLit}
use Rattle.bt_extend.specs.declared.definition.Definition.TheVariants.{Comparison, Cases, Disjunction}
use Rattle.bt_extend.specs.declared.written.WrittenLit.{WrittenLit}
use Rattle.bt_extend.specs.inner.Told.{BeginsWithForm, BeginsWithNoForm, IsFormText, IsNoForm, AreForms, AreNoForms}
use Rattle.bt_extend.proofs.FormTexts.{one_form}
use Rattle.bt_extend.proofs.ItemLists.{stops_at}
use Rattle.bt_extend.proofs.NoItems.{differ, lits_have_no_space, hints_have_no_space, zero_is_none}
use Rattle.bt_extend.proofs.Numbers.{lit_not_zero}

-- ---- forms

pub form_whole : (text : List ℕ) (form : FormParts) → IsFormText text form → BeginsWithForm text form []
form_whole text form h = record { is_form = h.is_form; text_is = h.text_is ∙ sym (append-nil (form_text form)); begins = inl refl }

-- a text that begins with no form is none
pub none_whole : (text : List ℕ) → BeginsWithNoForm text → IsNoForm text
none_whole text none form h = none form [] (form_whole text form h)

-- so is one that goes on behind a form
pub more_whole : (text rest : List ℕ) (form : FormParts) → BeginsWithForm text form rest → (rest ≡ [] → ⊥) → IsNoForm text
more_whole text rest form h more other g = more (one_form text rest [] form other h (form_whole text other g)).1

pub two_forms : (text : List ℕ) (a b : FormParts) → AreForms text a b → BeginsWithForm text a (form_text b)
two_forms text a b h = record { is_form = h.is_first; text_is = h.text_is; begins = inr (_, refl) }

forms_are : (text rest : List ℕ) (first second : FormParts) → BeginsWithForm text first rest → IsFormText rest second → AreForms text first second
forms_are text rest first second h k =
    record { is_first = h.is_form; is_second = k.is_form; text_is = h.text_is ∙ ap (λ r. form_text first ++ r) k.text_is }

pub none_first : (text : List ℕ) → BeginsWithNoForm text → AreNoForms text
none_first text none a b h = none a (form_text b) (two_forms text a b h)

none_second : (text rest : List ℕ) (first : FormParts) → BeginsWithForm text first rest → IsNoForm rest → AreNoForms text
none_second text rest first h none a b k =
    let same = (one_form text rest (form_text b) first a h (two_forms text a b k)).1 in
    none b (record { is_form = k.is_second; text_is = same })

-- what is told of the second form behind the first
pub second_told : {E : Type 0} (text rest : List ℕ) (first : FormParts) → BeginsWithForm text first rest → (r : Result (Option (FormParts × FormParts)) E)
    → IfOk r (λ o. MatchOption o (IsNoForm rest) (λ forms. (forms.0 ≡ first) × IsFormText rest forms.1))
    → IfOk r (λ o. MatchOption o (AreNoForms text) (λ forms. AreForms text forms.0 forms.1))
second_told text rest first h (Err e) k = tt
second_told text rest first h (Ok None) k = none_second text rest first h k
second_told text rest first h (Ok (Some forms)) k = subst (λ f. AreForms text f forms.1) (sym k.0) (forms_are text rest first forms.1 h k.1)

-- something follows
pub some_left : (rest : List ℕ) (b : Bool) → b ≡ (length rest == 0) → b ≡ false → rest ≡ [] → ⊥
some_left rest b is none e = false≢true (sym none ∙ is ∙ ap (λ r. length r == 0) e)

-- ---- lines

pub tail_is : (b : ℕ) (xs ys : List ℕ) → b ∷ xs ≡ b ∷ ys → xs ≡ ys
tail_is b xs ys e = cc

pub no_comparison : (text : List ℕ) → IsNoForm text → IsDefinitionRead (112 ∷ text) None
no_comparison text none (Comparison form) written e = none form (record { is_form = written; text_is = tail_is 112 text (form_text form) e })
no_comparison text none (Cases var first second) written e = differ 112 99 _ _ (λ same. omega arith) e
no_comparison text none (Disjunction lits) written e = differ 112 118 _ _ (λ same. omega arith) e

pub numbered : (var : ℕ) → IsNumbered var → IsNumber (var + 1)
numbered var h = record { positive = omega arith; short = h }

pub cases_lead : (text : List ℕ) (var : ℕ) (first second : FormParts) → IsNumbered var → text ≡ 32 ∷ (decimal (var + 1) ++ (form_text first ++ form_text second))
    → LeadsToItem IsNumber decimal text (var + 1) (form_text first ++ form_text second)
cases_lead text var first second h e = (
  numbered var h,
  record { lacks = hints_have_no_space (var + 1) (numbered var h); text_is = e; begins = inr (_, refl) },
)

-- no variable comes next
pub no_variable : (text : List ℕ) → LeadsToNone IsNumber decimal text → IsDefinitionRead (99 ∷ text) None
no_variable text none (Comparison form) written e = differ 99 112 _ _ (λ same. omega arith) e
no_variable text none (Cases var first second) written e =
    none (var + 1) (form_text first ++ form_text second) (cases_lead text var first second written.0 (tail_is 99 text _ e))
no_variable text none (Disjunction lits) written e = differ 99 118 _ _ (λ same. omega arith) e

-- no two forms follow it
pub no_forms : (text forms : List ℕ) (number : ℕ) → LeadsToItem IsNumber decimal text number forms → AreNoForms forms → IsDefinitionRead (99 ∷ text) None
no_forms text forms number leads none (Comparison form) written e = differ 99 112 _ _ (λ same. omega arith) e
no_forms text forms number leads none (Cases var first second) written e =
    let theirs = cases_lead text var first second written.0 (tail_is 99 text _ e) in
    let ours_is = leads.1.text_is in
    let theirs_is = theirs.1.text_is in
    let same : decimal number ++ forms ≡ decimal (var + 1) ++ (form_text first ++ form_text second) = cc in
    let both = piece_is 32 (decimal number) forms (decimal (var + 1)) (form_text first ++ form_text second) leads.1.lacks theirs.1.lacks leads.1.begins theirs.1.begins same in
    none first second (record { is_first = written.1; is_second = written.2; text_is = both.1 })
no_forms text forms number leads none (Disjunction lits) written e = differ 99 118 _ _ (λ same. omega arith) e

-- ---- literals

abbrev pub CanStand : NamedLit → Type 0
CanStand l = IsNumbered l.var

pub named_no_space : HaveNoSpace CanStand named_text
named_no_space l h = lits_have_no_space (record { number = l.var + 1; positive = l.positive }) (numbered l.var h)

pub named_not_zero : (l : NamedLit) → CanStand l → named_text l ≡ 48 ∷ [] → ⊥
named_not_zero l h e = lit_not_zero (record { number = l.var + 1; positive = l.positive }) (numbered l.var h) e

pub no_disjunction : (text rest : List ℕ) (lits : List NamedLit) → All CanStand lits → StopsAfter CanStand named_text text lits rest → (rest ≡ 32 ∷ 48 ∷ [] → ⊥)
    → IsDefinitionRead (118 ∷ text) None
no_disjunction text rest lits stand stops more (Comparison form) written e = differ 118 112 _ _ (λ same. omega arith) e
no_disjunction text rest lits stand stops more (Cases var first second) written e = differ 118 99 _ _ (λ same. omega arith) e
no_disjunction text rest lits stand stops more (Disjunction others) written e =
    more (stops_at CanStand named_text named_no_space text lits others rest (32 ∷ 48 ∷ []) stand stops written (inr (48 ∷ [], refl))
    (zero_is_none CanStand named_text named_not_zero [] (inl refl)) (tail_is 118 text (words named_text others ++ 32 ∷ 48 ∷ []) e))

pub no_named : (bytes : List ℕ) → ((lit : WrittenLit) → IsWrittenLit lit → bytes ≡ written_lit_text lit → ⊥) → (l : NamedLit) → IsNumbered l.var → bytes ≡ named_text l → ⊥
no_named bytes none l h e = none (record { number = l.var + 1; positive = l.positive }) (numbered l.var h) e

-- a line that begins with no letter of a definition
pub no_definition : (line : List ℕ) → ((rest : List ℕ) → line ≡ 112 ∷ rest → ⊥) → ((rest : List ℕ) → line ≡ 99 ∷ rest → ⊥) → ((rest : List ℕ) → line ≡ 118 ∷ rest → ⊥)
    → IsDefinitionRead line None
no_definition line no_p no_c no_v (Comparison form) written e = no_p _ e
no_definition line no_p no_c no_v (Cases var first second) written e = no_c _ e
no_definition line no_p no_c no_v (Disjunction lits) written e = no_v _ e
