-- Lines of a text that ends with a line feed, and of longer texts that begin with it.
use Rattle.std.proofs.Common.{◌≡◌, ◌≢◌, ◌==◌, ℕ, ◌+◌, ◌<◌, ◌⊎◌, Bool, true, false, cond, List, [], ◌∷◌, ◌++◌, length, refl, sym, ◌∙◌, ap, inl, inr, arith}
use Rattle.std.specs.List.{All, flat_map}
use Rattle.std.proofs.lemmas.List.{append_assoc}
use Rattle.std.proofs.lemmas.List.Elements.{All-head, All-tail}
use Rattle.std.proofs.lemmas.Bool.{eqb-true}
use Rattle.std.proofs.lemmas.List.Sums.{sum_by-append}
use Rattle.bt_text.specs.Lines.{Lacks, SplitsAt, line, line_feeds, IsFirstLine, BeginsWithLines}
use Rattle.bt_text.proofs.FirstLines.{BeginsWithLines-nil, BeginsWithLines-tail, first_line_of}

-- the text is empty, or ends with a line feed
abbrev pub IsWhole : List ℕ → Type 0
IsWhole text = (text ≡ []) ⊎ ((front : List ℕ) × (text ≡ line front))

-- what is left of such a text is one
pub rest_whole : (front rest : List ℕ) → IsWhole (front ++ rest) → IsWhole rest
rest_whole [] rest whole = whole
rest_whole (x ∷ front) rest (inl e) = cc
rest_whole (x ∷ front) rest (inr ([], e)) = let e : x ∷ (front ++ rest) ≡ 10 ∷ [] = e in rest_whole front rest (inl cc)
rest_whole (x ∷ front) rest (inr (y ∷ fore, e)) = let e : x ∷ (front ++ rest) ≡ y ∷ line fore = e in rest_whole front rest (inr (fore, cc))

line_has : (front : List ℕ) → Lacks 10 (line front) → ⊥
line_has [] none = All-head (λ other. other ≢ 10) 10 [] none refl
line_has (x ∷ front) none = line_has front (All-tail (λ other. other ≢ 10) x (line front) none)

-- a line that is read of a text: it has its line feed, or nothing is left to be read
abbrev pub IsLineRead : List ℕ → List ℕ → List ℕ → Type 0
IsLineRead text bytes rest = SplitsAt 10 text bytes rest ⊎ ((text ≡ []) × (bytes ≡ []))

-- the lines of a text that ends with a line feed have theirs
pub line_read : (text bytes rest : List ℕ) → IsWhole text → IsFirstLine text bytes rest → IsLineRead text bytes rest
line_read text bytes rest whole (inl split) = inl split
line_read text bytes rest (inl e) (inr last) = inr (e, sym last.1 ∙ e)
line_read text bytes rest (inr (front, e)) (inr last) = absurd (line_has front (rw e at last.0))

-- a line that has its line feed is that of each longer text
pub split-longer : (byte : ℕ) (text front back more : List ℕ) → SplitsAt byte text front back → SplitsAt byte (text ++ more) front (back ++ more)
split-longer byte text front back more split = record { first = split.first; text_is = ap (λ t. t ++ more) split.text_is ∙ append_assoc front (byte ∷ back) more }

-- what follows a line that has its line feed
pub split_whole : (text front back : List ℕ) → IsWhole text → SplitsAt 10 text front back → IsWhole back
split_whole text front back whole split = rest_whole (line front) back (rw (split.text_is ∙ sym (append_assoc front (10 ∷ []) back)) at whole)

-- lines with bytes, with which such a text begins, have their line feeds
pub lines_read : (lines : List (List ℕ)) (text rest : List ℕ) → IsWhole text → All (Lacks 10) lines → All (λ l. 0 < length l) lines → BeginsWithLines text lines rest
    → text ≡ flat_map line lines ++ rest
lines_read [] text rest whole lack some begins = BeginsWithLines-nil text rest begins
lines_read (k ∷ ks) text rest whole lack some begins =
    let first = first_line_of text in
    let tail = BeginsWithLines-tail text first.0 first.1 k ks rest first.2 (All-head (Lacks 10) k ks lack) begins in
    by first.0 first.1 (line_read text first.0 first.1 whole first.2) tail.0 (λ whole. lines_read ks first.1 rest whole (All-tail (Lacks 10) k ks lack) (All-tail (λ l. 0 < length l) k ks some) tail.1)
  where
    by : (bytes after : List ℕ) → IsLineRead text bytes after → bytes ≡ k → (IsWhole after → after ≡ flat_map line ks ++ rest) → text ≡ flat_map line (k ∷ ks) ++ rest
    by bytes after (inl split) same on =
        split.text_is ∙ ap (λ b. b ++ 10 ∷ after) same ∙ ap (λ r. k ++ 10 ∷ r) (on (split_whole text bytes after whole split)) ∙ sym (simp append_assoc)
    by bytes after (inr (empty, none)) same on = absurd (let has : 0 < length k = All-head (λ l. 0 < length l) k ks some in omega (arith, has, ap length same, ap length none))

-- line feeds of two texts
pub feeds_append : (xs ys : List ℕ) → line_feeds (xs ++ ys) ≡ line_feeds xs + line_feeds ys
feeds_append xs ys = sum_by-append (λ byte. cond (byte == 10) 1 0) xs ys

other_feeds : (x : ℕ) (test : Bool) → (x == 10) ≡ test → x ≢ 10 → line_feeds (x ∷ []) ≡ 0
other_feeds x true e other = absurd (other (eqb-true x 10 e))
other_feeds x false e other = ap (λ t. 0 + cond t 1 0) e

no_feeds : (xs : List ℕ) → Lacks 10 xs → line_feeds xs ≡ 0
no_feeds [] lack = refl
no_feeds (x ∷ xs) lack =
    let here = other_feeds x (x == 10) refl (All-head (λ other. other ≢ 10) x xs lack) in
    omega (arith, feeds_append (x ∷ []) xs, here, no_feeds xs (All-tail (λ other. other ≢ 10) x xs lack))

-- a line that has its line feed is one more than those behind it
pub split_feeds : (text front back : List ℕ) → SplitsAt 10 text front back → line_feeds text ≡ 1 + line_feeds back
split_feeds text front back split =
    omega (arith, ap line_feeds split.text_is, feeds_append front (10 ∷ back), feeds_append (10 ∷ []) back, no_feeds front split.first)

-- as many line feeds as lines
pub lines_feeds : (lines : List (List ℕ)) (rest : List ℕ) → All (Lacks 10) lines → line_feeds (flat_map line lines ++ rest) ≡ length lines + line_feeds rest
lines_feeds [] rest lack = omega arith
lines_feeds (k ∷ ks) rest lack =
    let split : SplitsAt 10 (flat_map line (k ∷ ks) ++ rest) k (flat_map line ks ++ rest) = record { first = All-head (Lacks 10) k ks lack; text_is = simp append_assoc } in
    omega (arith, split_feeds (flat_map line (k ∷ ks) ++ rest) k (flat_map line ks ++ rest) split, lines_feeds ks rest (All-tail (Lacks 10) k ks lack))
