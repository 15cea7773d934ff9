-- A line is that of one definition.
use Rattle.std.proofs.Common.{◌≡◌, ℕ, ◌+◌, Bool, List, [], ◌∷◌, ◌++◌, Some, None, refl, sym, ◌∙◌, ap, inl, inr, arith}
use Rattle.std.specs.Fmt.{decimal}
use Rattle.bt_text.proofs.Pieces.{piece_is}
use Rattle.bt_log.specs.LogText.{words}
use Rattle.bt_extend.specs.Forms.{FormParts, IsForm}
use Rattle.bt_extend.specs.Items.{LeadsToNone}
use Rattle.bt_extend.specs.Texts.{form_text, named_text, definition_text, MayBeWritten}
use Rattle.bt_extend.specs.Laws.{PrintedDefinitionIsRead}
use Rattle.bt_extend.specs.declared.definition.NamedLit.{NamedLit}
use Rattle.bt_extend.specs.declared.definition.Definition.{Definition}
use Rattle.bt_extend.specs.declared.definition.Definition.TheVariants.{Comparison, Cases, Disjunction}
use Rattle.bt_extend.specs.declared.written.WrittenLit.{WrittenLit}
use Rattle.bt_extend.proofs.DefinitionTexts.{CanStand, cases_lead, form_whole, named_no_space, named_not_zero, numbered, tail_is, two_forms}
use Rattle.bt_extend.proofs.FormTexts.{one_form}
use Rattle.bt_extend.proofs.ItemLists.{map_same, words_same}
use Rattle.bt_extend.proofs.NoItems.{differ, zero_is_none}
use Rattle.bt_extend.proofs.Numbers.{lit_same, number_same}

same_whole : (a b : FormParts) → IsForm a → IsForm b → form_text a ≡ form_text b → a ≡ b
same_whole a b p q e =
    (one_form (form_text a) [] [] a b (form_whole (form_text a) a (record { is_form = p; text_is = refl }))
    (form_whole (form_text a) b (record { is_form = q; text_is = e }))).0

same_forms : (a b c d : FormParts) → IsForm a → IsForm b → IsForm c → IsForm d → form_text a ++ form_text b ≡ form_text c ++ form_text d → (a ≡ c) × (b ≡ d)
same_forms a b c d pa pb pc pd e =
    let text = form_text a ++ form_text b in
    let both = one_form text (form_text b) (form_text d) a c (two_forms text a b (record { is_first = pa; is_second = pb; text_is = refl }))
    (two_forms text c d (record { is_first = pc; is_second = pd; text_is = e })) in
    (both.0, same_whole b d pb pd both.1)

named_same : (l m : NamedLit) → CanStand l → CanStand m → named_text l ≡ named_text m → l ≡ m
named_same l m p q e =
    let written : NamedLit → WrittenLit = λ n. record { number = n.var + 1; positive = n.positive } in
    let same : written l ≡ written m = lit_same (written l) (written m) (numbered l.var p) (numbered m.var q) e in
    let number : l.var + 1 ≡ m.var + 1 = ap (λ (w : WrittenLit). w.number) same in
    let var : l.var ≡ m.var = omega (arith, number) in
    let mk : ℕ → Bool → NamedLit = λ v b. record { var = v; positive = b } in
    ap (λ v. mk v l.positive) var ∙ ap (mk m.var) (ap (λ (w : WrittenLit). w.positive) same)

none_at_end : LeadsToNone CanStand named_text (32 ∷ 48 ∷ [])
none_at_end = zero_is_none CanStand named_text named_not_zero [] (inl refl)

-- definitions are told by their lines
pub definition_same : (d e : Definition) → MayBeWritten d → MayBeWritten e → definition_text d ≡ definition_text e → d ≡ e
definition_same (Comparison a) (Comparison b) p q e = ap (λ f. Comparison f) (same_whole a b p q (tail_is 112 (form_text a) (form_text b) e))
definition_same (Comparison a) (Cases v b c) p q e = absurd (differ 112 99 _ _ (λ same. omega arith) e)
definition_same (Comparison a) (Disjunction lits) p q e = absurd (differ 112 118 _ _ (λ same. omega arith) e)
definition_same (Cases v a b) (Comparison c) p q e = absurd (differ 99 112 _ _ (λ same. omega arith) e)
definition_same (Cases v a b) (Cases w c d) p q e =
    let ours : ℕ → FormParts → FormParts → List ℕ = λ n x y. 32 ∷ (decimal (n + 1) ++ (form_text x ++ form_text y)) in
    let tails : ours v a b ≡ ours w c d = tail_is 99 (ours v a b) (ours w c d) e in
    let first = cases_lead (ours v a b) v a b p.0 refl in
    let second = cases_lead (ours v a b) w c d q.0 tails in
    let same : decimal (v + 1) ++ (form_text a ++ form_text b) ≡ decimal (w + 1) ++ (form_text c ++ form_text d) = cc in
    let both = piece_is 32 (decimal (v + 1)) (form_text a ++ form_text b) (decimal (w + 1)) (form_text c ++ form_text d) first.1.lacks second.1.lacks first.1.begins second.1.begins same in
    let number = number_same (v + 1) (w + 1) first.0 second.0 both.0 in
    let var : v ≡ w = omega (arith, number) in
    let forms = same_forms a b c d p.1 p.2 q.1 q.2 both.1 in
    ap (λ n. Cases n a b) var ∙ ap (λ f. Cases w f b) forms.0 ∙ ap (λ f. Cases w c f) forms.1
definition_same (Cases v a b) (Disjunction lits) p q e = absurd (differ 99 118 _ _ (λ same. omega arith) e)
definition_same (Disjunction lits) (Comparison a) p q e = absurd (differ 118 112 _ _ (λ same. omega arith) e)
definition_same (Disjunction lits) (Cases v a b) p q e = absurd (differ 118 99 _ _ (λ same. omega arith) e)
definition_same (Disjunction lits) (Disjunction others) p q e =
    let tails = tail_is 118 (words named_text lits ++ 32 ∷ 48 ∷ []) (words named_text others ++ 32 ∷ 48 ∷ []) e in
    let texts = words_same CanStand named_text named_no_space lits others (32 ∷ 48 ∷ []) (32 ∷ 48 ∷ []) p q (inr (48 ∷ [], refl)) (inr (48 ∷ [], refl)) none_at_end none_at_end tails in
    ap (λ ls. Disjunction ls) (map_same CanStand named_text named_same lits others p q texts.0)

-- what is printed of a definition is read as that definition
pub printed_definition_is_read : PrintedDefinitionIsRead
printed_definition_is_read d written (Some e) read = ap (λ x. Some x) (sym (definition_same d e written read.0 read.1))
printed_definition_is_read d written None read = absurd (read d written refl)
