-- The first line of a text, and the lines with which a text begins.
use Rattle.std.proofs.Common.{◌≡◌, ◌≢◌, ℕ, ◌<◌, ◌⊎◌, ◌≤◌, ◌-◌, List, [], ◌∷◌, ◌++◌, length, drop, refl, sym, ◌∙◌, ap, subst, inl, inr, ⊎_elim, arith, length-append}
use Rattle.std.specs.List.{All, flat_map}
use Rattle.std.proofs.lemmas.Bool.{cases_eq}
use Rattle.std.proofs.lemmas.List.{append_assoc, drop_all}
use Rattle.std.proofs.lemmas.List.Prefix.{end_rest}
use Rattle.std.proofs.lemmas.List.Concat.{flat_map-append}
use Rattle.std.proofs.lemmas.List.Elements.{All-nil, All-cons, All-head, All-tail, All-same}
use Rattle.bt_text.specs.Lines.{Lacks, SplitsAt, line, IsFirstLine, BeginsWithLines}

-- a byte that stands in a list
present : (b : ℕ) (xs ys : List ℕ) → Lacks b (xs ++ b ∷ ys) → ⊥
present b [] ys none = All-head (λ other. other ≢ b) b ys none refl
present b (x ∷ xs) ys none = present b xs ys (All-tail (λ other. other ≢ b) x (xs ++ b ∷ ys) none)

-- the first place of a byte is one place
pub split_apart : (b : ℕ) (xs ys s t : List ℕ) → Lacks b xs → Lacks b ys → xs ++ b ∷ s ≡ ys ++ b ∷ t → (xs ≡ ys) × (s ≡ t)
split_apart b [] [] s t p q e = (refl, cc)
split_apart b [] (y ∷ ys) s t p q e = absurd (All-head (λ other. other ≢ b) y ys q (cc))
split_apart b (x ∷ xs) [] s t p q e = absurd (All-head (λ other. other ≢ b) x xs p (cc))
split_apart b (x ∷ xs) (y ∷ ys) s t p q e =
    let k = split_apart b xs ys s t (All-tail (λ other. other ≢ b) x xs p) (All-tail (λ other. other ≢ b) y ys q) (cc) in
    (cc, k.1)

-- what stands before the first such byte, and after it, are one
SplitsAt-unique : {b : ℕ} {text f g s t : List ℕ} → SplitsAt b text f s → SplitsAt b text g t → (f ≡ g) × (s ≡ t)
SplitsAt-unique {b} {text} {f} {g} {s} {t} p q = split_apart b f g s t p.first q.first (sym p.text_is ∙ q.text_is)

-- where a text has such a byte, it has a first one
pub SplitsAt-lacks : {b : ℕ} {text f s : List ℕ} → SplitsAt b text f s → Lacks b text → ⊥
SplitsAt-lacks {b} {text} {f} {s} p none = present b f s (rw p.text_is at none)

-- a text has a first line
pub first_line_of : (text : List ℕ) → (bytes : List ℕ) × (rest : List ℕ) × IsFirstLine text bytes rest
first_line_of [] = ([], [], inr (All-nil (λ other. other ≢ 10), refl, refl))
first_line_of (x ∷ xs) = ⊎_elim
    (λ feed. ([], xs, inl (record { first = All-nil (λ other. other ≢ 10); text_is = ap (λ b. b ∷ xs) feed })))
    (λ other. longer x xs other (first_line_of xs))
    (cases_eq x 10)
  where
    longer : (x : ℕ) (xs : List ℕ) → x ≢ 10 → (bytes : List ℕ) × (rest : List ℕ) × IsFirstLine xs bytes rest → (bytes : List ℕ) × (rest : List ℕ) × IsFirstLine (x ∷ xs) bytes rest
    longer x xs other (bytes, rest, inl p) = (x ∷ bytes, rest, inl (record { first = All-cons (λ b. b ≢ 10) x bytes other p.first; text_is = ap (λ t. x ∷ t) p.text_is }))
    longer x xs other (bytes, rest, inr q) = (x ∷ bytes, rest, inr (All-cons (λ b. b ≢ 10) x xs other q.0, ap (λ t. x ∷ t) q.1, q.2))

regroup : (k f r : List ℕ) → line k ++ f ++ r ≡ k ++ 10 ∷ (f ++ r)
regroup k f r = simp append_assoc

-- the first of the lines with which a text begins is its first line, and what follows begins with the others
pub BeginsWithLines-tail : (text bytes rest k : List ℕ) (ks : List (List ℕ)) (r : List ℕ) → IsFirstLine text bytes rest → Lacks 10 k → BeginsWithLines text (k ∷ ks) r → (bytes ≡ k) × BeginsWithLines rest ks r
BeginsWithLines-tail text bytes rest k ks r (inl p) none (inl e) =
    let h = split_apart 10 bytes k rest (flat_map line ks ++ r) p.first none (sym p.text_is ∙ e ∙ regroup k (flat_map line ks) r) in
    (h.0, inl h.1)
BeginsWithLines-tail text bytes rest k ks r (inl p) none (inr e) =
    let h = split_apart 10 bytes k (line rest) (flat_map line ks) p.first none (sym (append_assoc bytes (10 ∷ rest) (10 ∷ [])) ∙ sym (ap line p.text_is) ∙ e.0 ∙ append_assoc k (10 ∷ []) (flat_map line ks)) in
    (h.0, inr (h.1, e.1))
BeginsWithLines-tail text bytes rest k ks r (inr q) none (inl e) =
    let here = e ∙ regroup k (flat_map line ks) r in
    absurd (present 10 k (flat_map line ks ++ r) (All-same (λ other. other ≢ 10) (k ++ 10 ∷ (flat_map line ks ++ r)) text (sym here) q.0))
BeginsWithLines-tail text bytes rest k ks r (inr q) none (inr e) =
    let h = split_apart 10 text k [] (flat_map line ks) q.0 none (e.0 ∙ append_assoc k (10 ∷ []) (flat_map line ks)) in
    (sym q.1 ∙ h.0, inl (q.2 ∙ sym e.1 ∙ ap (λ f. f ++ r) h.1))

-- a text that begins with no line is what follows
pub BeginsWithLines-nil : (text r : List ℕ) → BeginsWithLines text [] r → text ≡ r
BeginsWithLines-nil text r (inl e) = e
BeginsWithLines-nil text r (inr e) = absurd (omega (arith, length-append text (10 ∷ []), ap length e.0))

-- one more line
pub BeginsWithLines-push : (text rest bytes after : List ℕ) (ls : List (List ℕ)) → BeginsWithLines text ls rest → IsFirstLine rest bytes after → 0 < length bytes → BeginsWithLines text (ls ++ bytes ∷ []) after
BeginsWithLines-push text rest bytes after ls (inl e) (inl p) some =
    inl (e ∙ ap (λ x. flat_map line ls ++ x) p.text_is ∙ sym (simp (flat_map-append line ls (bytes ∷ []), append_assoc)))
BeginsWithLines-push text rest bytes after ls (inl e) (inr q) some =
    inr (ap line (e ∙ ap (λ x. flat_map line ls ++ x) q.1) ∙ sym (simp (flat_map-append line ls (bytes ∷ []), append_assoc)), q.2)
BeginsWithLines-push text rest bytes after ls (inr e) (inl p) some =
    absurd (omega (arith, length-append bytes (10 ∷ after), ap length (sym p.text_is ∙ e.1)))
BeginsWithLines-push text rest bytes after ls (inr e) (inr q) some = absurd (omega (arith, ap length (sym q.1 ∙ e.1)))

-- of two lists of lines with which a text begins one goes on where the other ends
pub fork : (ks ls : List (List ℕ)) (text r s : List ℕ) → All (Lacks 10) ks → All (Lacks 10) ls → BeginsWithLines text ks r → BeginsWithLines text ls s
    → ((more : List (List ℕ)) × (ls ≡ ks ++ more) × BeginsWithLines r more s) ⊎ ((more : List (List ℕ)) × (ks ≡ ls ++ more) × BeginsWithLines s more r)
fork [] ls text r s p q a b = inl (ls, refl, subst (λ t. BeginsWithLines t ls s) (BeginsWithLines-nil text r a) b)
fork (k ∷ ks) [] text r s p q a b = inr (k ∷ ks, refl, subst (λ t. BeginsWithLines t (k ∷ ks) r) (BeginsWithLines-nil text s b) a)
fork (k ∷ ks) (l ∷ ls) text r s p q a b =
    let f = first_line_of text in
    let x = BeginsWithLines-tail text f.0 f.1 k ks r f.2 (All-head (Lacks 10) k ks p) a in
    let y = BeginsWithLines-tail text f.0 f.1 l ls s f.2 (All-head (Lacks 10) l ls q) b in
    let same : k ≡ l = sym x.0 ∙ y.0 in
    ⊎_elim (λ h. inl (h.0, ap (λ z. l ∷ z) h.1 ∙ ap (λ z. z ∷ (ks ++ h.0)) (sym same), h.2)) (λ h. inr (h.0, ap (λ z. k ∷ z) h.1 ∙ ap (λ z. z ∷ (ls ++ h.0)) same, h.2))
    (fork ks ls f.1 r s (All-tail (Lacks 10) k ks p) (All-tail (Lacks 10) l ls q) x.1 y.1)

-- where the text ends
pub BeginsWithLines-used : (text rest : List ℕ) (ls : List (List ℕ)) → BeginsWithLines text ls rest → (length rest ≤ length text) × (drop (length text - length rest) text ≡ rest)
BeginsWithLines-used text rest ls (inl e) = (omega (arith, length-append (flat_map line ls) rest, ap length e), end_rest text rest (flat_map line ls) e)
BeginsWithLines-used text rest ls (inr e) = (omega (arith, ap length e.1), drop_all (length text - length rest) text (omega (arith, ap length e.1)) ∙ sym e.1)

-- a first line, and the lines with which what follows it begins
pub BeginsWithLines-cons : (text bytes rest after : List ℕ) (ls : List (List ℕ)) → IsFirstLine text bytes rest → BeginsWithLines rest ls after → 1 < length (flat_map line ls) → BeginsWithLines text (bytes ∷ ls) after
BeginsWithLines-cons text bytes rest after ls (inl p) (inl e) some = inl (p.text_is ∙ ap (λ x. bytes ++ 10 ∷ x) e ∙ sym (regroup bytes (flat_map line ls) after))
BeginsWithLines-cons text bytes rest after ls (inl p) (inr e) some =
    inr (ap line p.text_is ∙ append_assoc bytes (10 ∷ rest) (10 ∷ []) ∙ ap (λ x. bytes ++ 10 ∷ x) e.0 ∙ sym (append_assoc bytes (10 ∷ []) (flat_map line ls)), e.1)
BeginsWithLines-cons text bytes rest after ls (inr q) (inl e) some =
    absurd (omega (arith, length-append (flat_map line ls) after, ap length (sym q.2 ∙ e)))
BeginsWithLines-cons text bytes rest after ls (inr q) (inr e) some =
    absurd (omega (arith, ap length e.0, length-append rest (10 ∷ []), ap length q.2))

-- a text has one first line
pub IsFirstLine-unique : (text k l r s : List ℕ) → IsFirstLine text k r → IsFirstLine text l s → (k ≡ l) × (r ≡ s)
IsFirstLine-unique text k l r s (inl p) (inl q) = SplitsAt-unique p q
IsFirstLine-unique text k l r s (inl p) (inr q) = absurd (SplitsAt-lacks p q.0)
IsFirstLine-unique text k l r s (inr p) (inl q) = absurd (SplitsAt-lacks q p.0)
IsFirstLine-unique text k l r s (inr p) (inr q) = (sym p.1 ∙ q.1, p.2 ∙ sym q.2)
