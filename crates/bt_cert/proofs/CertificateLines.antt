-- The lines of a certificate.
use Rattle.std.proofs.Common.{◌≡◌, ◌≢◌, ℕ, ◌<◌, List, [], ◌∷◌, ◌++◌, All, map, length, refl, ◌∙◌, ap, subst, inl, inr, arith, append_assoc, length-append}
use Rattle.std.specs.List.{flat_map}
use Rattle.std.proofs.lemmas.List.Elements.{All-nil, All-cons}
use Rattle.std.proofs.lemmas.Grind.{flat_map-append}
use Rattle.bt_text.specs.Blanks.{IsBlank}
use Rattle.bt_text.specs.Lines.{Lacks, line, IsFirstLine, BeginsWithLines}
use Rattle.bt_text.proofs.FirstLines.{first_line_of, BeginsWithLines-nil, BeginsWithLines-tail, BeginsWithLines-push}
use Rattle.bt_cnf.specs.Formulas.{FormulaParts}
use Rattle.bt_log.specs.Refuting.{EndsEmpty}
use Rattle.bt_cert.specs.StepLines.{WrittenStep, written_text}
use Rattle.bt_cert.specs.Certificates.{SpellsRefutation, ComesTo, log_of, end_line}
use Rattle.bt_cert.proofs.Accepted.{accepted_of, valid_of, fit_of}

-- the lines after the first ones of a text
record Beyond (text : List ℕ) (front back : List (List ℕ)) (end : List ℕ) : Type 0 where
  pub rest : List ℕ
  pub begins : BeginsWithLines text front rest
  pub goes_on : BeginsWithLines rest back end

-- what stands before the last byte of two texts
cut_last : (text xs ys : List ℕ) (b : ℕ) → text ++ b ∷ [] ≡ xs ++ ys → 0 < length ys → (rest : List ℕ) × (text ≡ xs ++ rest) × (rest ++ b ∷ [] ≡ ys)
cut_last text [] ys b e some = (text, refl, e)
cut_last [] (x ∷ xs) ys b e some =
    let same : length (b ∷ []) ≡ length (x ∷ (xs ++ ys)) = ap length e in absurd (omega (arith, same, length-append xs ys))
cut_last (t ∷ text) (x ∷ xs) ys b e some =
    let tails : text ++ b ∷ [] ≡ xs ++ ys = cc in
    let more = cut_last text xs ys b tails some in
    let front = more.1 in
    (more.0, cc, more.2)

-- lines with which a text begins, in two parts
beyond : (text : List ℕ) (front back : List (List ℕ)) (end : List ℕ) → BeginsWithLines text (front ++ back) end → 0 < length (flat_map line back) → Beyond text front back end
beyond text front back end (inl e) some = record {
  rest = flat_map line back ++ end;
  begins = inl (e ∙ ap (λ x. x ++ end) (flat_map-append line front back) ∙ append_assoc (flat_map line front) (flat_map line back) end);
  goes_on = inl refl;
}
beyond text front back end (inr h) some =
    let cut = cut_last text (flat_map line front) (flat_map line back) 10 (h.0 ∙ flat_map-append line front back) some in
    record { rest = cut.0; begins = inl cut.1; goes_on = inr (cut.2, h.1) }

pub end_lacks : Lacks 10 end_line
end_lacks = All-cons (λ b. b ≢ 10) 101 (110 ∷ 100 ∷ []) (λ e. omega arith)
    (All-cons (λ b. b ≢ 10) 110 (100 ∷ []) (λ e. omega arith) (All-cons (λ b. b ≢ 10) 100 [] (λ e. omega arith) (All-nil (λ b. b ≢ 10))))

end_is_first : (rest blanks : List ℕ) → BeginsWithLines rest (end_line ∷ []) blanks → IsFirstLine rest end_line blanks
end_is_first rest blanks begins =
    let found = first_line_of rest in
    let tail = BeginsWithLines-tail rest found.0 found.1 end_line [] blanks found.2 end_lacks begins in
    subst (λ l. IsFirstLine rest l blanks) tail.0 (subst (λ r. IsFirstLine rest found.0 r) (BeginsWithLines-nil found.1 blanks tail.1) found.2)

-- a certificate comes to its line `end`
pub comes_to_end : (f : FormulaParts) (text : List ℕ) (c : SpellsRefutation f text) → ComesTo f text c.steps end_line c.spells.blanks
comes_to_end f text c =
    let b = beyond text (map written_text c.steps) (end_line ∷ []) c.spells.blanks c.spells.begins (omega arith) in
    record {
      right = record { written = c.spells.written; accepted = accepted_of f f.clauses c.steps c.refutes.valid c.fits };
      rest = b.rest;
      begins = b.begins;
      first = end_is_first b.rest c.spells.blanks b.goes_on;
    }

-- a text that comes to `end` after the empty clause, and then has blanks, is a certificate
pub certificate_of : (f : FormulaParts) (text : List ℕ) (steps : List WrittenStep) (after : List ℕ) → ComesTo f text steps end_line after → EndsEmpty (log_of steps)
    → All IsBlank after → SpellsRefutation f text
certificate_of f text steps after c ends blanks = record {
  steps = steps;
  spells = record {
    written = c.right.written;
    blanks = after;
    are_blanks = blanks;
    begins = BeginsWithLines-push text c.rest end_line after (map written_text steps) c.begins c.first (omega arith);
  };
  refutes = record { valid = valid_of f f.clauses steps c.right.accepted; ends = ends };
  fits = fit_of f f.clauses steps c.right.accepted;
}
