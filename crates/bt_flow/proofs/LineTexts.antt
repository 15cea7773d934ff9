-- The lines of a state's text: that no line feed is in them, that they are of their forms, and that each has one list;
-- and texts that begin with lines.
use Rattle.std.proofs.Common.{◌≡◌, ◌≢◌, ℕ, Bool, List, [], ◌∷◌, ◌++◌, length, map, refl, sym, ◌∙◌, ap, inl, inr, arith, append_assoc, append-nil, codes}
use Rattle.std.specs.Bool.{⊤}
use Rattle.std.specs.List.{All, flat_map}
use Rattle.std.proofs.lemmas.List.{append_cancel_left, append_cancel_right}
use Rattle.std.proofs.lemmas.List.Elements.{All-head, All-tail, All-cons, All-nil, All-append}
use Rattle.bt_text.specs.Blanks.{IsBlank}
use Rattle.bt_text.specs.Lines.{Lacks, line, BeginsWithLines}
use Rattle.bt_text.proofs.Lacking.{lacks}
use Rattle.bt_text.proofs.Pieces.{piece_is}
use Rattle.bt_frac.specs.Ratio.{Ratio, IsLowest}
use Rattle.bt_frac.specs.Texts.{frac_text}
use Rattle.bt_frac.proofs.Words.{frac_text_same}
use Rattle.bt_flow.specs.StateText.{mark_text, spaced}
use Rattle.bt_flow.specs.StateLines.{numbers, marks, Fills, lines_of}
use Rattle.bt_flow.proofs.Words.{spaced_begins}
use Rattle.bt_flow.proofs.FracTexts.{frac_text_lacks, frac_text_in_line}
use Rattle.bt_flow.proofs.MarkTexts.{mark_same, mark_lacks, mark_in_line}
use Rattle.bt_flow.proofs.WrongLines.{lines_after, cut_lines, AreRight, blank_right}

-- a line without line feeds is the first
pub first_line : (a rest : List ℕ) → Lacks 10 a → lines_of (a ++ 10 ∷ rest) ≡ a ∷ lines_of rest
unfolding lines_after
first_line a rest lacks =
    cut_lines (a ++ 10 ∷ rest) a (10 ∷ rest) (record { lacks = lacks; text_is = refl; begins = inr (rest, refl) })

-- so is one behind which nothing comes
only_line : (a : List ℕ) → Lacks 10 a → lines_of a ≡ a ∷ []
unfolding lines_after
only_line a lacks = cut_lines a a [] (record { lacks = lacks; text_is = sym (append-nil a); begins = inl refl })

-- the lines of a text that begins with lines
begun_lines : (lines : List (List ℕ)) (rest : List ℕ) → All (Lacks 10) lines → lines_of (flat_map line lines ++ rest) ≡ lines ++ lines_of rest
begun_lines [] rest all = refl
begun_lines (l ∷ ls) rest all =
    ap lines_of (regrouped (flat_map line ls))
    ∙ first_line l (flat_map line ls ++ rest) (All-head (Lacks 10) l ls all)
    ∙ ap (λ t. l ∷ t) (begun_lines ls rest (All-tail (Lacks 10) l ls all))
  where
    regrouped : (more : List ℕ) → (line l ++ more) ++ rest ≡ l ++ 10 ∷ (more ++ rest)
    regrouped more = simp append_assoc

-- lines end with a line feed
ends_with_feed : (l : List ℕ) (ls : List (List ℕ)) → (text : List ℕ) × (flat_map line (l ∷ ls) ≡ line text)
ends_with_feed l [] = (l, append-nil (line l))
ends_with_feed l (m ∷ ms) =
    let later = ends_with_feed m ms in (l ++ 10 ∷ later.0, ap (λ t. line l ++ t) later.1 ∙ regrouped later.0)
  where
    regrouped : (text : List ℕ) → line l ++ line text ≡ line (l ++ 10 ∷ text)
    regrouped text = simp append_assoc

-- the lines of a text that is lines without the last line feed
last_lines : (l : List ℕ) (ls : List (List ℕ)) (text : List ℕ) → All (Lacks 10) (l ∷ ls) → line text ≡ flat_map line (l ∷ ls) → lines_of text ≡ l ∷ ls
last_lines l [] text all e =
    ap lines_of (append_cancel_right text l (10 ∷ []) (e ∙ append-nil (line l))) ∙ only_line l (All-head (Lacks 10) l [] all)
last_lines l (m ∷ ms) text all e =
    let later = ends_with_feed m ms in
    let text_is : text ≡ l ++ 10 ∷ later.0 = append_cancel_right text (l ++ 10 ∷ later.0) (10 ∷ []) (e ∙ ap (λ t. line l ++ t) later.1 ∙ regrouped later.0) in
    ap lines_of text_is ∙ first_line l later.0 (All-head (Lacks 10) l (m ∷ ms) all)
    ∙ ap (λ t. l ∷ t) (last_lines m ms later.0 (All-tail (Lacks 10) l (m ∷ ms) all) (sym later.1))
  where
    regrouped : (text : List ℕ) → line l ++ line text ≡ line (l ++ 10 ∷ text)
    regrouped text = simp append_assoc

-- a text has these lines, and then blank ones
pub record HasLinesFirst (lines : List (List ℕ)) (text : List ℕ) : Type 0 where
  pub rest : List (List ℕ)
  pub lines_are : lines_of text ≡ lines ++ rest
  pub blank : AreRight [] rest

-- a text that is lines, of which the last line feed may be missing, and then blanks
pub lines_and_blanks : (l : List ℕ) (ls : List (List ℕ)) (text blanks : List ℕ) → All (Lacks 10) (l ∷ ls) → BeginsWithLines text (l ∷ ls) blanks → All IsBlank blanks
    → HasLinesFirst (l ∷ ls) text
lines_and_blanks l ls text blanks all (inl is) are_blanks = record {
  rest = lines_of blanks;
  lines_are = ap lines_of is ∙ begun_lines (l ∷ ls) blanks all;
  blank = record { at = blank_right blanks are_blanks };
}
lines_and_blanks l ls text blanks all (inr (is, none)) are_blanks = record {
  rest = [];
  lines_are = last_lines l ls text all is ∙ sym (append-nil (l ∷ ls));
  blank = record { at = λ k. omega arith };
}

spaced_lacks : {A : Type 0} (P : A → Type 0) (word : A → List ℕ) → ((x : A) → P x → Lacks 10 (word x)) → (items : List A) → All P items
    → Lacks 10 (spaced (map word items))
spaced_lacks P word lacks [] all = All-nil (λ b. b ≢ 10)
spaced_lacks P word lacks (x ∷ items) all =
    All-append (λ b. b ≢ 10) (32 ∷ word x) (spaced (map word items))
    (All-cons (λ b. b ≢ 10) 32 (word x) (omega arith) (lacks x (All-head P x items all)))
    (spaced_lacks P word lacks items (All-tail P x items all))

-- equal words after spaces are equal items
spaced_same : {A : Type 0} (P : A → Type 0) (word : A → List ℕ) → ((x : A) → P x → Lacks 32 (word x)) → ((x y : A) → P x → P y → word x ≡ word y → x ≡ y)
    → (xs ys : List A) → All P xs → All P ys → spaced (map word xs) ≡ spaced (map word ys) → xs ≡ ys
spaced_same P word lacks same [] [] all all' e = refl
spaced_same P word lacks same [] (y ∷ ys) all all' e = cc
spaced_same P word lacks same (x ∷ xs) [] all all' e = cc
spaced_same P word lacks same (x ∷ xs) (y ∷ ys) all all' e =
    let good = All-head P x xs all in
    let good' = All-head P y ys all' in
    let texts : word x ++ spaced (map word xs) ≡ word y ++ spaced (map word ys) = cc in
    let pieces =
    piece_is 32 (word x) (spaced (map word xs)) (word y) (spaced (map word ys)) (lacks x good) (lacks y good') (spaced_begins (map word xs))
    (spaced_begins (map word ys)) texts in
    let heads = same x y good good' pieces.0 in
    let tails = spaced_same P word lacks same xs ys (All-tail P x xs all) (All-tail P y ys all') pieces.1 in
    cc

-- a line of fractions has no line feed
pub numbers_lack : (word : List ℕ) (fractions : List Ratio) → Lacks 10 word → All IsLowest fractions → Lacks 10 (word ++ spaced (map frac_text fractions))
numbers_lack word fractions lacks lowest =
    All-append (λ b. b ≢ 10) word (spaced (map frac_text fractions)) lacks (spaced_lacks IsLowest frac_text frac_text_in_line fractions lowest)

all_marks : (backed : List Bool) → All (λ _. ⊤) backed
all_marks backed = λ k d below. tt

-- nor has one of marks
pub marks_lack : (backed : List Bool) → Lacks 10 (codes "mark" ++ spaced (map mark_text backed))
marks_lack backed =
    All-append (λ b. b ≢ 10) (codes "mark") (spaced (map mark_text backed)) (lacks 10 (codes "mark") refl)
    (spaced_lacks (λ _. ⊤) mark_text mark_in_line backed (all_marks backed))

-- a line of fractions or of marks is of its form
pub numbers_filled : (word : List ℕ) (fractions : List Ratio) (count : ℕ) → length fractions ≡ count → All IsLowest fractions
    → Fills (numbers word count) (word ++ spaced (map frac_text fractions))
numbers_filled word fractions count counted lowest =
    (fractions, record { text = spaced (map frac_text fractions); line_is = refl; spells = record { counted = counted; meets = lowest; text_is = refl } })

pub marks_filled : (backed : List Bool) (count : ℕ) → length backed ≡ count → Fills (marks count) (codes "mark" ++ spaced (map mark_text backed))
marks_filled backed count counted =
    (backed, record { text = spaced (map mark_text backed); line_is = refl; spells = record { counted = counted; meets = all_marks backed; text_is = refl } })

-- lines with one text have the same lists
pub same_numbers : (word : List ℕ) (xs ys : List Ratio) → All IsLowest xs → All IsLowest ys → word ++ spaced (map frac_text xs) ≡ word ++ spaced (map frac_text ys) → xs ≡ ys
same_numbers word xs ys all all' e =
    spaced_same IsLowest frac_text frac_text_lacks frac_text_same xs ys all all'
    (append_cancel_left word (spaced (map frac_text xs)) (spaced (map frac_text ys)) e)

pub same_marks : (xs ys : List Bool) → codes "mark" ++ spaced (map mark_text xs) ≡ codes "mark" ++ spaced (map mark_text ys) → xs ≡ ys
same_marks xs ys e =
    spaced_same (λ _. ⊤) mark_text mark_lacks mark_same xs ys (all_marks xs) (all_marks ys)
    (append_cancel_left (codes "mark") (spaced (map mark_text xs)) (spaced (map mark_text ys)) e)
