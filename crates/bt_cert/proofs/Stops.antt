-- Where a certificate comes to a line that is no line of a valid step.
use Rattle.std.proofs.Common.{◌≡◌, ℕ, List, [], ◌∷◌, ◌++◌, map, refl, sym, ◌∙◌, subst, inl, inr, append-nil}
use Rattle.std.specs.List.{All}
use Rattle.std.proofs.lemmas.List.Elements.{All-head, All-tail, All-nil, All-cons, All-map, All-weaker}
use Rattle.bt_text.specs.Lines.{Lacks, IsFirstLine, BeginsWithLines}
use Rattle.bt_text.proofs.FirstLines.{fork, BeginsWithLines-nil, BeginsWithLines-tail, IsFirstLine-unique}
use Rattle.bt_cnf.specs.Formulas.{FormulaParts}
use Rattle.bt_cert.specs.StepLines.{WrittenStep, IsWritten, written_text}
use Rattle.bt_cert.specs.Judging.{IsAccepted}
use Rattle.bt_cert.specs.Certificates.{AreAccepted, AreRight, ComesTo, clauses_after}
use Rattle.bt_extend.proofs.ItemLists.{map_same}
use Rattle.bt_cert.proofs.Accepted.{accepted_at}
use Rattle.bt_cert.proofs.WrittenLines.{written_text_same, written_in_line}

-- the line is that of no step that is valid after these steps
abbrev pub Halts : FormulaParts → List WrittenStep → List ℕ → Type 0
Halts f steps next = (step : WrittenStep) → IsWritten step → next ≡ written_text step → IsAccepted f (clauses_after f steps) step → ⊥

pub lines_lack : (steps : List WrittenStep) → All IsWritten steps → All (Lacks 10) (map written_text steps)
lines_lack steps all = All-map (Lacks 10) written_text steps (All-weaker IsWritten (λ step. Lacks 10 (written_text step)) written_in_line steps all)

-- where the steps of these lines part
record Parts (steps : List WrittenStep) (front : List (List ℕ)) (line : List ℕ) (rest : List (List ℕ)) : Type 0 where
  pub first : List WrittenStep
  pub step : WrittenStep
  pub last : List WrittenStep
  pub split : steps ≡ first ++ step ∷ last
  pub first_is : map written_text first ≡ front
  pub line_is : written_text step ≡ line

parts_of : (steps : List WrittenStep) (front : List (List ℕ)) (line : List ℕ) (rest : List (List ℕ)) → map written_text steps ≡ front ++ line ∷ rest
    → Parts steps front line rest
parts_of [] [] line rest e = absurd cc
parts_of [] (k ∷ front) line rest e = absurd cc
parts_of (s ∷ steps) [] line rest e = record { first = []; step = s; last = steps; split = refl; first_is = refl; line_is = cc }
parts_of (s ∷ steps) (k ∷ front) line rest e =
    let heads : written_text s ≡ k = cc in
    let tails : map written_text steps ≡ front ++ line ∷ rest = cc in
    let p = parts_of steps front line rest tails in
    let split = p.split in let first_is = p.first_is in
    record { first = s ∷ p.first; step = p.step; last = p.last; split = cc; first_is = cc; line_is = p.line_is }

front_of : (first : List WrittenStep) (step : WrittenStep) (last : List WrittenStep) → All IsWritten (first ++ step ∷ last) → All IsWritten first × IsWritten step
front_of [] step last all = (All-nil IsWritten, All-head IsWritten step last all)
front_of (s ∷ first) step last all =
    let more = front_of first step last (All-tail IsWritten s (first ++ step ∷ last) all) in
    (All-cons IsWritten s first (All-head IsWritten s (first ++ step ∷ last) all) more.0, more.1)

-- lines of valid steps that go on beyond a line at which they halt
halted : (f : FormulaParts) (steps others : List WrittenStep) (next after : List ℕ) (rest : List ℕ) (line : List ℕ) (more : List (List ℕ)) (end : List ℕ)
    → All IsWritten steps → AreRight f others → IsFirstLine rest next after → Halts f steps next
    → map written_text others ≡ map written_text steps ++ line ∷ more → BeginsWithLines rest (line ∷ more) end → ⊥
halted f steps others next after rest line more end written right first halts e begins =
    let p = parts_of others (map written_text steps) line more e in
    let all = front_of p.first p.step p.last (subst (All IsWritten) p.split right.written) in
    let same : p.first ≡ steps = map_same IsWritten written_text written_text_same p.first steps all.0 written p.first_is in
    let accepted : AreAccepted f f.clauses (p.first ++ p.step ∷ p.last) = subst (AreAccepted f f.clauses) p.split right.accepted in
    let here = subst (λ s. IsAccepted f (clauses_after f s) p.step) same (accepted_at f f.clauses p.first p.step p.last accepted) in
    let lacks : Lacks 10 line = subst (Lacks 10) p.line_is (written_in_line p.step all.1) in
    let tail = BeginsWithLines-tail rest next after line more end first lacks begins in
    halts p.step all.1 (tail.0 ∙ sym p.line_is) here

-- there is one such line
pub record SameStop (steps others : List WrittenStep) (next other after rest : List ℕ) : Type 0 where
  pub steps_same : steps ≡ others
  pub next_same : next ≡ other
  pub after_same : after ≡ rest

no_more : (f : FormulaParts) (text : List ℕ) (steps others : List WrittenStep) (next after other rest : List ℕ)
    (a : ComesTo f text steps next after) (b : ComesTo f text others other rest) → map written_text others ≡ map written_text steps → a.rest ≡ b.rest
    → SameStop steps others next other after rest
no_more f text steps others next after other rest a b e same =
    let lines = IsFirstLine-unique a.rest next other after rest a.first (subst (λ r. IsFirstLine r other rest) (sym same) b.first) in
    record {
      steps_same = map_same IsWritten written_text written_text_same steps others a.right.written b.right.written (sym e);
      next_same = lines.0;
      after_same = lines.1;
    }

forked : (f : FormulaParts) (text : List ℕ) (steps others : List WrittenStep) (next after other rest : List ℕ)
    (a : ComesTo f text steps next after) (b : ComesTo f text others other rest) → Halts f steps next → (more : List (List ℕ))
    → map written_text others ≡ map written_text steps ++ more → BeginsWithLines a.rest more b.rest → SameStop steps others next other after rest
forked f text steps others next after other rest a b halts [] e begins =
    no_more f text steps others next after other rest a b (e ∙ append-nil (map written_text steps)) (BeginsWithLines-nil a.rest b.rest begins)
forked f text steps others next after other rest a b halts (line ∷ more) e begins =
    absurd (halted f steps others next after a.rest line more b.rest a.right.written b.right a.first halts e begins)

turned : {steps others : List WrittenStep} {next other after rest : List ℕ} → SameStop steps others next other after rest → SameStop others steps other next rest after
turned s = record { steps_same = sym s.steps_same; next_same = sym s.next_same; after_same = sym s.after_same }

pub stops_same : (f : FormulaParts) (text : List ℕ) (steps others : List WrittenStep) (next after other rest : List ℕ)
    → ComesTo f text steps next after → Halts f steps next → ComesTo f text others other rest → Halts f others other → SameStop steps others next other after rest
stops_same f text steps others next after other rest a halts b halts' =
    elim (fork (map written_text steps) (map written_text others) text a.rest b.rest (lines_lack steps a.right.written) (lines_lack others b.right.written) a.begins b.begins) [
      | inl h ↦ forked f text steps others next after other rest a b halts h.0 h.1 h.2
      | inr h ↦ turned (forked f text others steps other rest next after b a halts' h.0 h.1 h.2)
    ]
