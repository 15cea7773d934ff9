-- Words of a line, each after a space.
use Rattle.std.proofs.Common.{◌≡◌, ℕ, ◌+◌, ◌-◌, ◌<◌, List, [], ◌∷◌, ◌++◌, length, map, refl, sym, ◌∙◌, ap, inl, inr, arith, append_assoc, append-nil}
use Rattle.std.specs.List.{All}
use Rattle.std.proofs.lemmas.List.{length_push, map_push}
use Rattle.std.proofs.lemmas.List.Elements.{All-head, All-tail, All-push}
use Rattle.bt_text.specs.Pieces.{BeginsWith}
use Rattle.bt_text.proofs.Pieces.{piece_is}
use Rattle.bt_flow.specs.StateText.{spaced}
use Rattle.bt_flow.specs.StateLines.{SpellsItems}
use Rattle.bt_flow.specs.inner.Lines.{HaveNoSpace, LeadsToItem}

-- words after spaces are nothing, or begin with a space
pub spaced_begins : (words : List (List ℕ)) → BeginsWith 32 (spaced words)
spaced_begins [] = inl refl
spaced_begins (w ∷ words) = inr (w ++ spaced words, refl)

-- one more word at the end
spaced_push : (words : List (List ℕ)) (w rest : List ℕ) → spaced (words ++ w ∷ []) ++ rest ≡ spaced words ++ 32 ∷ (w ++ rest)
spaced_push [] w rest = ap (λ v. 32 ∷ (v ++ rest)) (append-nil w)
spaced_push (v ∷ words) w rest =
    ap (λ t. 32 ∷ t)
    (append_assoc v (spaced (words ++ w ∷ [])) rest ∙ ap (λ t. v ++ t) (spaced_push words w rest)
    ∙ sym (append_assoc v (spaced words) (32 ∷ (w ++ rest))))

-- after a front of the text these items were read, and what spells so many items has the rest of them here
pub record Walks {A : Type 0} (P : A → Type 0) (word : A → List ℕ) (count : ℕ) (text : List ℕ) (items : List A) (done : ℕ) (rest : List ℕ) : Type 0 where
  pub counted : length items ≡ done
  pub meets : All P items
  pub front : text ≡ spaced (map word items) ++ rest
  pub later : (all : List A) → SpellsItems P word count text all → (left : List A) × SpellsItems P word (count - done) rest left

-- the word of the first item that is left comes next
first_word : {A : Type 0} (P : A → Type 0) (word : A → List ℕ) → HaveNoSpace P word → (left : ℕ) (rest : List ℕ) (y : A) (ys : List A)
    → SpellsItems P word left rest (y ∷ ys) → LeadsToItem P word rest y (spaced (map word ys))
first_word P word lacks left rest y ys h =
    let meets = All-head P y ys h.meets in
    (meets, record { lacks = lacks y meets; text_is = h.text_is; begins = spaced_begins (map word ys) })

-- the item whose word comes next is the first that is left
next_word : {A : Type 0} (P : A → Type 0) (word : A → List ℕ) → HaveNoSpace P word → (left : ℕ) (rest : List ℕ) (x : A) (after : List ℕ) (all : List A)
    → 0 < left → LeadsToItem P word rest x after → SpellsItems P word left rest all → (ys : List A) × SpellsItems P word (left - 1) after ys
next_word P word lacks left rest x after [] some leads h = let counted = h.counted in absurd (omega arith)
next_word P word lacks left rest x after (y ∷ ys) some leads h =
    let first = first_word P word lacks left rest y ys h in
    let same : word x ++ after ≡ word y ++ spaced (map word ys) = let e = leads.1.text_is in let f = h.text_is in cc in
    let pieces = piece_is 32 (word x) after (word y) (spaced (map word ys)) leads.1.lacks first.1.lacks leads.1.begins first.1.begins same in
    let counted = h.counted in
    (ys, record { counted = omega arith; meets = All-tail P y ys h.meets; text_is = pieces.1 })

pub walk_more : {A : Type 0} (P : A → Type 0) (word : A → List ℕ) → HaveNoSpace P word → (count : ℕ) (text : List ℕ) (items : List A) (done : ℕ) (rest after : List ℕ) (x : A)
    → Walks P word count text items done rest → done < count → LeadsToItem P word rest x after → Walks P word count text (items ++ x ∷ []) (done + 1) after
walk_more P word lacks count text items done rest after x walk more leads = record {
  counted = let counted = walk.counted in omega (arith, length_push items x);
  meets = All-push P items x walk.meets leads.0;
  front =
      walk.front ∙ ap (λ r. spaced (map word items) ++ r) leads.1.text_is ∙ sym (spaced_push (map word items) (word x) after)
      ∙ ap (λ words. spaced words ++ after) (sym (map_push word items x));
  later = λ all h.
      let left = walk.later all h in
      let next = next_word P word lacks (count - done) rest x after left.0 (omega arith) leads left.1 in
      (next.0, record { counted = let counted = next.1.counted in omega arith; meets = next.1.meets; text_is = next.1.text_is });
}

-- nothing spells so many where no item comes next
pub walk_misses : {A : Type 0} (P : A → Type 0) (word : A → List ℕ) → HaveNoSpace P word → (count : ℕ) (text : List ℕ) (items : List A) (done : ℕ) (rest : List ℕ)
    → Walks P word count text items done rest → done < count → ((x : A) (after : List ℕ) → LeadsToItem P word rest x after → ⊥)
    → (all : List A) → SpellsItems P word count text all → ⊥
walk_misses {A = A} P word lacks count text items done rest walk more none all h =
    let left = walk.later all h in nothing left.0 left.1
  where
    nothing : (left : List A) → SpellsItems P word (count - done) rest left → ⊥
    nothing [] h = let counted = h.counted in omega arith
    nothing (y ∷ ys) h = none y (spaced (map word ys)) (first_word P word lacks (count - done) rest y ys h)

pub walk_ends : {A : Type 0} (P : A → Type 0) (word : A → List ℕ)
    → (count : ℕ) (text : List ℕ) (items : List A) (done : ℕ) (rest : List ℕ)
    → Walks P word count text items done rest → done ≡ count → rest ≡ [] → SpellsItems P word count text items
walk_ends P word count text items done rest walk all_done none = record {
  counted = walk.counted ∙ all_done;
  meets = walk.meets;
  text_is = walk.front ∙ ap (λ r. spaced (map word items) ++ r) none ∙ append-nil (spaced (map word items));
}
