-- Lines of pins or of blocks, one after another, at the front of a text.
use Rattle.std.proofs.Common.{◌≡◌, ℕ, ◌+◌, ◌<◌, ◌≤◌, ◌⊎◌, List, [], ◌∷◌, ◌++◌, length, refl, sym, ◌∙◌, ap, subst, inl, inr, arith, length-append}
use Rattle.std.specs.List.{All}
use Rattle.std.proofs.lemmas.List.{append_assoc, append-nil}
use Rattle.std.proofs.lemmas.List.Elements.{All-head, All-tail}
use Rattle.bt_text.specs.Lines.{Lacks, IsFirstLine, BeginsWithLines}
use Rattle.bt_text.proofs.FirstLines.{first_line_of, BeginsWithLines-tail, BeginsWithLines-push, IsFirstLine-unique}
use Rattle.bt_net.specs.PinText.{AreLinesFrom}
use Rattle.bt_net.specs.PinRefusals.{BeginsWithItems}

-- what follows a line that has bytes is shorter
pub shorter : (text bytes rest : List ℕ) → IsFirstLine text bytes rest → 0 < length bytes → length rest + 1 ≤ length text
shorter text bytes rest (inl p) some = omega (arith, ap length p.text_is, length-append bytes (10 ∷ rest))
shorter text bytes rest (inr p) some = omega (arith, ap length p.1, ap length p.2)

-- lines at the front of what follows other lines
pub more_lines : (acc ls ms : List (List ℕ)) (text mid rest : List ℕ) → All (Lacks 10) ls → All (λ l. 0 < length l) ls → BeginsWithLines text acc mid → BeginsWithLines mid (ls ++ ms) rest
    → (after : List ℕ) × BeginsWithLines text (acc ++ ls) after × BeginsWithLines after ms rest
more_lines acc [] ms text mid rest lack some before begins = (mid, subst (λ ls. BeginsWithLines text ls mid) (sym (append-nil acc)) before, begins)
more_lines acc (l ∷ ls) ms text mid rest lack some before begins =
    let first = first_line_of mid in
    let tail = BeginsWithLines-tail mid first.0 first.1 l (ls ++ ms) rest first.2 (All-head (Lacks 10) l ls lack) begins in
    let is : IsFirstLine mid l first.1 = subst (λ b. IsFirstLine mid b first.1) tail.0 first.2 in
    let on = more_lines (acc ++ l ∷ []) ls ms text first.1 rest (All-tail (Lacks 10) l ls lack) (All-tail (λ k. 0 < length k) l ls some)
    (BeginsWithLines-push text mid l first.1 acc before is (All-head (λ k. 0 < length k) l ls some)) tail.1 in
    (on.0, subst (λ all. BeginsWithLines text all on.0) (append_assoc acc (l ∷ []) ls) on.1, on.2)

module _ {X : Type 0} (IsLine : ℕ → List ℕ → X → Type 0)
    (one : (number : ℕ) (bytes : List ℕ) (x y : X) → IsLine number bytes x → IsLine number bytes y → x ≡ y)
    (some : (number : ℕ) (bytes : List ℕ) (x : X) → IsLine number bytes x → 0 < length bytes)
    (lack : (number : ℕ) (bytes : List ℕ) (x : X) → IsLine number bytes x → Lacks 10 bytes) where
  -- one more line
  pub items_push : (number : ℕ) (text rest bytes after : List ℕ) (xs : List X) (x : X) → BeginsWithItems IsLine number text xs rest → IsFirstLine rest bytes after
      → IsLine (number + length xs) bytes x → BeginsWithItems IsLine number text (xs ++ x ∷ []) after
  items_push number text rest bytes after [] x begins next is =
      (bytes, after, subst (λ t. IsFirstLine t bytes after) (sym begins) next, subst (λ k. IsLine k bytes x) (omega arith) is, refl)
  items_push number text rest bytes after (y ∷ ys) x begins next is =
      (begins.0, begins.1, begins.2, begins.3, items_push (number + 1) begins.1 rest bytes after ys x begins.4 next (subst (λ k. IsLine k bytes x) (omega arith) is))

  -- so many lines have so many bytes
  pub items_short : (number : ℕ) (text rest : List ℕ) (xs : List X) → BeginsWithItems IsLine number text xs rest → length xs + length rest ≤ length text
  items_short number text rest [] begins = omega (arith, ap length begins)
  items_short number text rest (x ∷ xs) begins =
      omega (arith, shorter text begins.0 begins.1 begins.2 (some number begins.0 x begins.3), items_short (number + 1) begins.1 rest xs begins.4)

  -- no more of them follow, where the next line has this number
  abbrev pub NoMore : ℕ → List ℕ → Type 0
  NoMore number rest = (bytes after : List ℕ) → IsFirstLine rest bytes after → (x : X) → IsLine number bytes x → ⊥

  -- a text begins with one longest list of them
  pub items_same : (number : ℕ) (text r s : List ℕ) (xs ys : List X) → BeginsWithItems IsLine number text xs r → BeginsWithItems IsLine number text ys s
      → NoMore (number + length xs) r → NoMore (number + length ys) s → (xs ≡ ys) × (r ≡ s)
  items_same number text r s [] [] p q none non = (refl, sym p ∙ q)
  items_same number text r s [] (y ∷ ys) p q none non =
      absurd (none q.0 q.1 (subst (λ t. IsFirstLine t q.0 q.1) p q.2) y (subst (λ k. IsLine k q.0 y) (omega arith) q.3))
  items_same number text r s (x ∷ xs) [] p q none non =
      absurd (non p.0 p.1 (subst (λ t. IsFirstLine t p.0 p.1) q p.2) x (subst (λ k. IsLine k p.0 x) (omega arith) p.3))
  items_same number text r s (x ∷ xs) (y ∷ ys) p q none non =
      let line = IsFirstLine-unique text p.0 q.0 p.1 q.1 p.2 q.2 in
      let head = one number q.0 x y (subst (λ b. IsLine number b x) line.0 p.3) q.3 in
      let tail = items_same (number + 1) q.1 r s xs ys (subst (λ t. BeginsWithItems IsLine (number + 1) t xs r) line.1 p.4) q.4
      (λ bytes after is z h. none bytes after is z (subst (λ k. IsLine k bytes z) (omega arith) h))
      (λ bytes after is z h. non bytes after is z (subst (λ k. IsLine k bytes z) (omega arith) h)) in
      ((λ i. head i ∷ tail.0 i), tail.1)

  -- their lines, behind others
  pub items_lines : (number : ℕ) (acc : List (List ℕ)) (all text rest : List ℕ) (xs : List X) → BeginsWithLines all acc text → BeginsWithItems IsLine number text xs rest
      → (lines : List (List ℕ)) × AreLinesFrom IsLine number lines xs × BeginsWithLines all (acc ++ lines) rest
  items_lines number acc all text rest [] before begins = ([], tt, subst (λ r. BeginsWithLines all (acc ++ []) r) begins (subst (λ ls. BeginsWithLines all ls text) (sym (append-nil acc)) before))
  items_lines number acc all text rest (x ∷ xs) before begins =
      let on = items_lines (number + 1) (acc ++ begins.0 ∷ []) all begins.1 rest xs (BeginsWithLines-push all text begins.0 begins.1 acc before begins.2 (some number begins.0 x begins.3)) begins.4 in
      (begins.0 ∷ on.0, (begins.3, on.1), subst (λ ls. BeginsWithLines all ls rest) (append_assoc acc (begins.0 ∷ []) on.0) on.2)

  -- and back
  pub lines_items : (number : ℕ) (lines ms : List (List ℕ)) (text rest : List ℕ) (xs : List X) → AreLinesFrom IsLine number lines xs → BeginsWithLines text (lines ++ ms) rest
      → (mid : List ℕ) × BeginsWithItems IsLine number text xs mid × BeginsWithLines mid ms rest
  lines_items number [] ms text rest [] are begins = (text, refl, begins)
  lines_items number [] ms text rest (x ∷ xs) are begins = absurd are
  lines_items number (l ∷ ls) ms text rest [] are begins = absurd are
  lines_items number (l ∷ ls) ms text rest (x ∷ xs) are begins =
      let first = first_line_of text in
      let tail = BeginsWithLines-tail text first.0 first.1 l (ls ++ ms) rest first.2 (lack number l x are.0) begins in
      let on = lines_items (number + 1) ls ms first.1 rest xs are.1 tail.1 in
      (on.0, (first.0, first.1, first.2, subst (λ b. IsLine number b x) (sym tail.0) are.0, on.1), on.2)

  -- the first of them, where there is one
  pub items_first : (number : ℕ) (text rest bytes after : List ℕ) (xs : List X) → BeginsWithItems IsLine number text xs rest → IsFirstLine text bytes after
      → ((xs ≡ []) × (text ≡ rest)) ⊎ ((x : X) × IsLine number bytes x)
  items_first number text rest bytes after [] begins is = inl (refl, begins)
  items_first number text rest bytes after (x ∷ xs) begins is = inr (x, subst (λ b. IsLine number b x) (IsFirstLine-unique text begins.0 bytes begins.1 after begins.2 is).0 begins.3)
