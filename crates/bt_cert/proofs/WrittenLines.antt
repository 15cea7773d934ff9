-- The line of a step: what is read of it, and that it is of one step.
use Rattle.std.proofs.Common.{◌≡◌, ◌≢◌, ℕ, ◌<◌, List, [], ◌∷◌, ◌++◌, ◌==◌, Bool, true, false, length, codes, refl, sym, ◌∙◌, ap, subst, inl, inr, arith, append_assoc, append-nil}
use Rattle.std.specs.Fmt.{decimal}
use Rattle.std.proofs.lemmas.Bool.{eqb-true, false≢true}
use Rattle.std.specs.List.{All}
use Rattle.std.proofs.lemmas.List.Elements.{All-nil, All-cons, All-append}
use Rattle.bt_text.specs.Lines.{Lacks}
use Rattle.bt_text.specs.Pieces.{BeginsWith}
use Rattle.bt_frac.specs.Ratio.{Ratio, IsLowest}
use Rattle.bt_frac.specs.Texts.{frac_text}
use Rattle.bt_frac.proofs.Words.{frac_text_same}
use Rattle.bt_log.specs.LogText.{words}
use Rattle.bt_extend.specs.Words.{IsNumber, IsWrittenLit, written_lit_text}
use Rattle.bt_cert.specs.StepLines.{WrittenStep, Lemma, Learnt, IsWritten, written_text}
use Rattle.bt_extend.specs.declared.written.WrittenLit.{WrittenLit}
use Rattle.bt_cert.specs.Certificates.{SpellsNoStep}
use Rattle.bt_cert.specs.inner.Lines.{IsStepRead}
use Rattle.bt_extend.specs.Items.{LeadsToNone, StopsAfter}
use Rattle.bt_extend.proofs.Numbers.{number_lacks, number_same, number_not_zero, lit_lacks, lit_same, lit_not_zero}
use Rattle.bt_frac.proofs.FracTexts.{frac_text_lacks}
use Rattle.bt_extend.proofs.ItemLists.{words_begin, words_same, words_lack, map_same, stops_at}
use Rattle.bt_extend.proofs.NoItems.{differ, lits_have_no_space, hints_have_no_space, fracs_have_no_space, zero_is_none, end_is_none, zero_begins}

-- the line of a lemma
pub lemma_line : (lits : List WrittenLit) (weights : List Ratio)
    → written_text (Lemma lits weights) ≡ 102 ∷ (words written_lit_text lits ++ 32 ∷ 48 ∷ words frac_text weights)
lemma_line lits weights = ap (λ t. 102 ∷ t) (append_assoc (words written_lit_text lits) (32 ∷ 48 ∷ []) (words frac_text weights))

-- the line of a learnt clause
pub learnt_line : (lits : List WrittenLit) (hints : List ℕ)
    → written_text (Learnt lits hints) ≡ 114 ∷ (words written_lit_text lits ++ 32 ∷ 48 ∷ (words decimal hints ++ 32 ∷ 48 ∷ []))
learnt_line lits hints =
    ap (λ t. t ++ 32 ∷ 48 ∷ []) (ap (λ t. 114 ∷ t) (append_assoc (words written_lit_text lits) (32 ∷ 48 ∷ []) (words decimal hints)))
    ∙ ap (λ t. 114 ∷ t) (append_assoc (words written_lit_text lits) (32 ∷ 48 ∷ words decimal hints) (32 ∷ 48 ∷ []))

weights_begin : (weights : List Ratio) → BeginsWith 32 (words frac_text weights)
weights_begin [] = inl refl
weights_begin (w ∷ weights) = inr (frac_text w ++ words frac_text weights, refl)

hints_begin : (hints : List ℕ) → BeginsWith 32 (words decimal hints ++ 32 ∷ 48 ∷ [])
hints_begin hints = words_begin decimal hints (32 ∷ 48 ∷ []) (inr (48 ∷ [], refl))

hints_end_none : LeadsToNone IsNumber decimal (32 ∷ 48 ∷ [])
hints_end_none = zero_is_none IsNumber decimal number_not_zero [] (inl refl)

-- what follows the literals of a text is what follows those of any step that it spells
after_lits : (text : List ℕ) (lits other : List WrittenLit) (rest after : List ℕ) → All IsWrittenLit lits
    → StopsAfter IsWrittenLit written_lit_text text lits rest → All IsWrittenLit other → BeginsWith 32 after
    → text ≡ words written_lit_text other ++ 32 ∷ 48 ∷ after → rest ≡ 32 ∷ 48 ∷ after
after_lits text lits other rest after stand stops other_stand begins e =
    stops_at IsWrittenLit written_lit_text lits_have_no_space text lits other rest (32 ∷ 48 ∷ after) stand stops other_stand (zero_begins after)
    (zero_is_none IsWrittenLit written_lit_text lit_not_zero after begins) e

-- a text behind `f` is that of a lemma where it is read as literals, `0`, weights and nothing more
lemma_is : (text after : List ℕ) (lits : List WrittenLit) (weights : List Ratio) (rest : List ℕ)
    → StopsAfter IsWrittenLit written_lit_text text lits rest → rest ≡ 32 ∷ 48 ∷ after → (last : List ℕ) → StopsAfter IsLowest frac_text after weights last → last ≡ []
    → 102 ∷ text ≡ written_text (Lemma lits weights)
lemma_is text after lits weights rest stops zero last stops' none =
    ap (λ t. 102 ∷ t) (stops.text_is ∙ ap (λ r. words written_lit_text lits ++ r) (zero ∙ ap (λ a. 32 ∷ 48 ∷ a) (stops'.text_is ∙ ap (λ l. words frac_text weights ++ l) none ∙ append-nil (words frac_text weights))))
    ∙ sym (lemma_line lits weights)

-- and it is that of no step where no `0` follows the literals
pub no_lemma_at_zero : (text rest : List ℕ) (lits : List WrittenLit) → All IsWrittenLit lits → StopsAfter IsWrittenLit written_lit_text text lits rest
    → ((after : List ℕ) → rest ≡ 32 ∷ 48 ∷ after → ⊥) → SpellsNoStep (102 ∷ text)
no_lemma_at_zero text rest lits stand stops none (Lemma other weights) written e =
    let tails : text ≡ words written_lit_text other ++ 32 ∷ 48 ∷ words frac_text weights = let l = e ∙ lemma_line other weights in cc in
    none (words frac_text weights) (after_lits text lits other rest (words frac_text weights) stand stops written.0 (weights_begin weights) tails)
no_lemma_at_zero text rest lits stand stops none (Learnt other hints) written e =
    differ 102 114 _ _ (λ same. omega arith) (e ∙ learnt_line other hints)

-- or where something follows the weights
no_lemma_at_end : (text after : List ℕ) (lits : List WrittenLit) (weights : List Ratio) (rest last : List ℕ) → All IsWrittenLit lits
    → StopsAfter IsWrittenLit written_lit_text text lits rest → rest ≡ 32 ∷ 48 ∷ after → All IsLowest weights → StopsAfter IsLowest frac_text after weights last
    → (last ≡ [] → ⊥) → SpellsNoStep (102 ∷ text)
no_lemma_at_end text after lits weights rest last stand stops zero low stops' some (Lemma other others) written e =
    let tails : text ≡ words written_lit_text other ++ 32 ∷ 48 ∷ words frac_text others = let l = e ∙ lemma_line other others in cc in
    let found = after_lits text lits other rest (words frac_text others) stand stops written.0 (weights_begin others) tails in
    let same : after ≡ words frac_text others = let z = zero in cc in
    some (stops_at IsLowest frac_text fracs_have_no_space after weights others last [] low stops' written.1 (inl refl) (end_is_none IsLowest frac_text)
    (same ∙ sym (append-nil (words frac_text others))))
no_lemma_at_end text after lits weights rest last stand stops zero low stops' some (Learnt other hints) written e =
    differ 102 114 _ _ (λ same. omega arith) (e ∙ learnt_line other hints)

-- a text behind `r` is that of a learnt clause where it is read as literals, `0`, hints and `0`
learnt_is : (text after : List ℕ) (lits : List WrittenLit) (hints : List ℕ) (rest : List ℕ)
    → StopsAfter IsWrittenLit written_lit_text text lits rest → rest ≡ 32 ∷ 48 ∷ after → (last : List ℕ) → StopsAfter IsNumber decimal after hints last → last ≡ 32 ∷ 48 ∷ []
    → 114 ∷ text ≡ written_text (Learnt lits hints)
learnt_is text after lits hints rest stops zero last stops' ends =
    ap (λ t. 114 ∷ t) (stops.text_is ∙ ap (λ r. words written_lit_text lits ++ r) (zero ∙ ap (λ a. 32 ∷ 48 ∷ a) (stops'.text_is ∙ ap (λ l. words decimal hints ++ l) ends)))
    ∙ sym (learnt_line lits hints)

pub no_learnt_at_zero : (text rest : List ℕ) (lits : List WrittenLit) → All IsWrittenLit lits → StopsAfter IsWrittenLit written_lit_text text lits rest
    → ((after : List ℕ) → rest ≡ 32 ∷ 48 ∷ after → ⊥) → SpellsNoStep (114 ∷ text)
no_learnt_at_zero text rest lits stand stops none (Learnt other hints) written e =
    let tails : text ≡ words written_lit_text other ++ 32 ∷ 48 ∷ (words decimal hints ++ 32 ∷ 48 ∷ []) = let l = e ∙ learnt_line other hints in cc in
    none (words decimal hints ++ 32 ∷ 48 ∷ []) (after_lits text lits other rest (words decimal hints ++ 32 ∷ 48 ∷ []) stand stops written.0 (hints_begin hints) tails)
no_learnt_at_zero text rest lits stand stops none (Lemma other weights) written e =
    differ 114 102 _ _ (λ same. omega arith) (e ∙ lemma_line other weights)

no_learnt_at_end : (text after : List ℕ) (lits : List WrittenLit) (hints : List ℕ) (rest last : List ℕ) → All IsWrittenLit lits
    → StopsAfter IsWrittenLit written_lit_text text lits rest → rest ≡ 32 ∷ 48 ∷ after → All IsNumber hints → StopsAfter IsNumber decimal after hints last
    → (last ≡ 32 ∷ 48 ∷ [] → ⊥) → SpellsNoStep (114 ∷ text)
no_learnt_at_end text after lits hints rest last stand stops zero numbers stops' some (Learnt other others) written e =
    let tails : text ≡ words written_lit_text other ++ 32 ∷ 48 ∷ (words decimal others ++ 32 ∷ 48 ∷ []) = let l = e ∙ learnt_line other others in cc in
    let found = after_lits text lits other rest (words decimal others ++ 32 ∷ 48 ∷ []) stand stops written.0 (hints_begin others) tails in
    let same : after ≡ words decimal others ++ 32 ∷ 48 ∷ [] = let z = zero in cc in
    some (stops_at IsNumber decimal hints_have_no_space after hints others last (32 ∷ 48 ∷ []) numbers stops' written.1 (zero_begins []) hints_end_none same)
no_learnt_at_end text after lits hints rest last stand stops zero numbers stops' some (Lemma other weights) written e =
    differ 114 102 _ _ (λ same. omega arith) (e ∙ lemma_line other weights)

lits_same : (xs ys : List WrittenLit) (r s : List ℕ) → All IsWrittenLit xs → All IsWrittenLit ys → BeginsWith 32 r → BeginsWith 32 s
    → words written_lit_text xs ++ 32 ∷ 48 ∷ r ≡ words written_lit_text ys ++ 32 ∷ 48 ∷ s → (xs ≡ ys) × (r ≡ s)
lits_same xs ys r s px py br bs e =
    let both = words_same IsWrittenLit written_lit_text lits_have_no_space xs ys (32 ∷ 48 ∷ r) (32 ∷ 48 ∷ s) px py (zero_begins r) (zero_begins s)
    (zero_is_none IsWrittenLit written_lit_text lit_not_zero r br) (zero_is_none IsWrittenLit written_lit_text lit_not_zero s bs) e in
    (map_same IsWrittenLit written_lit_text lit_same xs ys px py both.0, let rests = both.1 in cc)

-- a line is that of one step
pub written_text_same : (a b : WrittenStep) → IsWritten a → IsWritten b → written_text a ≡ written_text b → a ≡ b
written_text_same (Lemma lits weights) (Lemma lits' weights') h k e =
    let tails : words written_lit_text lits ++ 32 ∷ 48 ∷ words frac_text weights ≡ words written_lit_text lits' ++ 32 ∷ 48 ∷ words frac_text weights' =
    let l = sym (lemma_line lits weights) ∙ e ∙ lemma_line lits' weights' in cc in
    let both = lits_same lits lits' (words frac_text weights) (words frac_text weights') h.0 k.0 (weights_begin weights) (weights_begin weights') tails in
    let lists = words_same IsLowest frac_text fracs_have_no_space weights weights' [] [] h.1 k.1 (inl refl) (inl refl) (end_is_none IsLowest frac_text) (end_is_none IsLowest frac_text)
    (append-nil (words frac_text weights) ∙ both.1 ∙ sym (append-nil (words frac_text weights'))) in
    let first : lits ≡ lits' = both.0 in
    let second : weights ≡ weights' = map_same IsLowest frac_text frac_text_same weights weights' h.1 k.1 lists.0 in
    cc
written_text_same (Learnt lits hints) (Learnt lits' hints') h k e =
    let tails : words written_lit_text lits ++ 32 ∷ 48 ∷ (words decimal hints ++ 32 ∷ 48 ∷ []) ≡ words written_lit_text lits' ++ 32 ∷ 48 ∷ (words decimal hints' ++ 32 ∷ 48 ∷ []) =
    let l = sym (learnt_line lits hints) ∙ e ∙ learnt_line lits' hints' in cc in
    let both = lits_same lits lits' (words decimal hints ++ 32 ∷ 48 ∷ []) (words decimal hints' ++ 32 ∷ 48 ∷ []) h.0 k.0 (hints_begin hints) (hints_begin hints') tails in
    let lists = words_same IsNumber decimal hints_have_no_space hints hints' (32 ∷ 48 ∷ []) (32 ∷ 48 ∷ []) h.1 k.1 (zero_begins []) (zero_begins []) hints_end_none hints_end_none both.1 in
    let first : lits ≡ lits' = both.0 in
    let second : hints ≡ hints' = map_same IsNumber decimal number_same hints hints' h.1 k.1 lists.0 in
    cc
written_text_same (Lemma lits weights) (Learnt lits' hints') h k e =
    absurd (differ 102 114 _ _ (λ same. omega arith) (sym (lemma_line lits weights) ∙ e ∙ learnt_line lits' hints'))
written_text_same (Learnt lits hints) (Lemma lits' weights') h k e =
    absurd (differ 114 102 _ _ (λ same. omega arith) (sym (learnt_line lits hints) ∙ e ∙ lemma_line lits' weights'))

feed_apart : (byte : ℕ) → 10 < byte → byte ≢ 10
feed_apart byte h e = omega arith

zero_in_line : (rest : List ℕ) → Lacks 10 rest → Lacks 10 (32 ∷ 48 ∷ rest)
zero_in_line rest lacks = All-cons (λ b. b ≢ 10) 32 (48 ∷ rest) (feed_apart 32 (omega arith)) (All-cons (λ b. b ≢ 10) 48 rest (feed_apart 48 (omega arith)) lacks)

lits_in_line : (lits : List WrittenLit) (rest : List ℕ) → All IsWrittenLit lits → Lacks 10 rest → Lacks 10 (words written_lit_text lits ++ 32 ∷ 48 ∷ rest)
lits_in_line lits rest all lacks =
    All-append (λ b. b ≢ 10) (words written_lit_text lits) (32 ∷ 48 ∷ rest)
    (words_lack IsWrittenLit written_lit_text 10 (λ e. omega arith) (λ l h. lit_lacks l 10 h (omega arith) (omega arith)) lits all) (zero_in_line rest lacks)

-- no line feed stands in the line of a step
pub written_in_line : (step : WrittenStep) → IsWritten step → Lacks 10 (written_text step)
written_in_line (Lemma lits weights) h =
    subst (Lacks 10) (sym (lemma_line lits weights)) (All-cons (λ b. b ≢ 10) 102 (words written_lit_text lits ++ 32 ∷ 48 ∷ words frac_text weights) (feed_apart 102 (omega arith))
    (lits_in_line lits (words frac_text weights) h.0
    (words_lack IsLowest frac_text 10 (λ e. omega arith) (λ r low. frac_text_lacks r 10 low (omega arith) (omega arith) (omega arith)) weights h.1)))
written_in_line (Learnt lits hints) h =
    subst (Lacks 10) (sym (learnt_line lits hints)) (All-cons (λ b. b ≢ 10) 114 (words written_lit_text lits ++ 32 ∷ 48 ∷ (words decimal hints ++ 32 ∷ 48 ∷ [])) (feed_apart 114 (omega arith))
    (lits_in_line lits (words decimal hints ++ 32 ∷ 48 ∷ []) h.0
    (All-append (λ b. b ≢ 10) (words decimal hints) (32 ∷ 48 ∷ []) (words_lack IsNumber decimal 10 (λ e. omega arith) (λ n k. number_lacks n 10 k (omega arith)) hints h.1)
    (zero_in_line [] (All-nil (λ b. b ≢ 10))))))

-- no step has the line `end`
pub end_is_no_step : (step : WrittenStep) → codes "end" ≢ written_text step
end_is_no_step (Lemma lits weights) e = differ 101 102 _ _ (λ same. omega arith) (e ∙ lemma_line lits weights)
end_is_no_step (Learnt lits hints) e = differ 101 114 _ _ (λ same. omega arith) (e ∙ learnt_line lits hints)

nothing_left : (rest : List ℕ) → length rest ≡ 0 → rest ≡ []
nothing_left [] e = refl
nothing_left (b ∷ rest) e = absurd (omega arith)

-- what is told of a text behind `f`
pub lemma_read : (text after : List ℕ) (lits : List WrittenLit) (weights : List Ratio) (rest last : List ℕ) (told : Bool) → All IsWrittenLit lits
    → StopsAfter IsWrittenLit written_lit_text text lits rest → rest ≡ 32 ∷ 48 ∷ after → All IsLowest weights → StopsAfter IsLowest frac_text after weights last
    → told ≡ (length last == 0) → IsStepRead (102 ∷ text) (Lemma lits weights) told
lemma_read text after lits weights rest last true stand stops zero low stops' e =
    ((stand, low), lemma_is text after lits weights rest stops zero last stops' (nothing_left last (eqb-true (length last) 0 (sym e))))
lemma_read text after lits weights rest last false stand stops zero low stops' e =
    no_lemma_at_end text after lits weights rest last stand stops zero low stops' (λ none. false≢true (e ∙ ap (λ l. length l == 0) none))

-- what is told of a text behind `r`
pub learnt_read : (text after : List ℕ) (lits : List WrittenLit) (hints : List ℕ) (rest last : List ℕ) (told : Bool) → All IsWrittenLit lits
    → StopsAfter IsWrittenLit written_lit_text text lits rest → rest ≡ 32 ∷ 48 ∷ after → All IsNumber hints → StopsAfter IsNumber decimal after hints last
    → (told ≡ true → last ≡ 32 ∷ 48 ∷ []) → (last ≡ 32 ∷ 48 ∷ [] → told ≡ true) → IsStepRead (114 ∷ text) (Learnt lits hints) told
learnt_read text after lits hints rest last true stand stops zero numbers stops' so if_so =
    ((stand, numbers), learnt_is text after lits hints rest stops zero last stops' (so refl))
learnt_read text after lits hints rest last false stand stops zero numbers stops' so if_so =
    no_learnt_at_end text after lits hints rest last stand stops zero numbers stops' (λ ends. false≢true (if_so ends))
