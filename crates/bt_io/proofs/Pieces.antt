-- Writing a head and then a piece for each item of a list.
use Rattle.std.proofs.Common.{◌≡◌, ℕ, ◌+◌, ◌<◌, ◌≤◌, List, [], ◌∷◌, ◌++◌, length, get_or, take, drop, Ok, Err, sym, ◌∙◌, ap, subst, take-append-drop}
use Rattle.std.specs.List.{flat_map}
use Rattle.std.specs.declared.option.Option.{Option}
use Rattle.std.specs.declared.result.Result.{Result}
use Rattle.std.proofs.lemmas.List.{append-nil, append_assoc, take_more, take_all}
use Rattle.std.proofs.lemmas.List.Concat.{flat_map-append}
use Rattle.bt_io.specs.Bytes.{WritesText}
use Rattle.bt_io.specs.Passages.{passage}
use Rattle.bt_io.specs.declared.fault.WriteFault.{WriteFault}
use Rattle.bt_io.proofs.Written.{writes_both, writes_no_more}

module _ {X : Type 0} (f : X → List ℕ) (xs : List X) (head : List ℕ) where
  pieces_more : (i : ℕ) (x : X) (piece : List ℕ) → i < length xs → x ≡ get_or xs i x → piece ≡ f x → head ++ flat_map f (take i xs) ++ piece ≡ head ++ flat_map f (take (i + 1) xs)
  pieces_more i x piece inside here is =
      append_assoc head (flat_map f (take i xs)) piece
      ∙ ap (λ t. head ++ t) (ap (λ p. flat_map f (take i xs) ++ p) (is ∙ ap f here ∙ sym (append-nil (f (get_or xs i x))))
      ∙ sym (flat_map-append f (take i xs) (get_or xs i x ∷ [])) ∙ ap (flat_map f) (sym (take_more xs i x inside)))

  pieces_rest : (i : ℕ) → head ++ flat_map f (take i xs) ++ flat_map f (drop i xs) ≡ head ++ flat_map f xs
  pieces_rest i =
      append_assoc head (flat_map f (take i xs)) (flat_map f (drop i xs))
      ∙ ap (λ t. head ++ t) (sym (flat_map-append f (take i xs) (drop i xs)) ∙ ap (flat_map f) (take-append-drop i xs))

  module _ {K : Type 0} (held : K → Option (List ℕ)) (faults : K → ℕ) (old : K) where
    abbrev Written : K → List ℕ → Result (Unit {0}) WriteFault → Type 0
    Written now text result = WritesText (passage held faults old now) text result

    -- the head was not written whole
    pub head_failed : (now : K) (e d : WriteFault) (rest : List ℕ) → Written now head (Err e) → Written now (head ++ rest) (Err d)
    head_failed now e d rest w = writes_no_more e d (passage held faults old now) head rest w

    -- one more piece was written
    pub piece_written : (between now : K) (i : ℕ) (x : X) (piece : List ℕ) → Written between (head ++ flat_map f (take i xs)) (Ok tt) → i < length xs → x ≡ get_or xs i x → piece ≡ f x
        → WritesText {T = Unit {0}} {E = WriteFault} (passage held faults between now) piece (Ok tt) → Written now (head ++ flat_map f (take (i + 1) xs)) (Ok tt)
    piece_written between now i x piece so_far inside here is w =
        subst (λ t. Written now t (Ok tt)) (pieces_more i x piece inside here is)
        (writes_both held faults old between now (head ++ flat_map f (take i xs)) piece tt (Ok tt) so_far w)

    -- a piece was not written whole
    pub piece_failed : (between now : K) (i : ℕ) (x : X) (piece rest : List ℕ) (e d : WriteFault) → Written between (head ++ flat_map f (take i xs)) (Ok tt) → i < length xs → x ≡ get_or xs i x
        → piece ≡ f x → WritesText {T = Unit {0}} {E = WriteFault} (passage held faults between now) piece (Err e) → Written now (head ++ flat_map f xs ++ rest) (Err d)
    piece_failed between now i x piece rest e d so_far inside here is w =
        let both : Written now (head ++ flat_map f (take i xs) ++ piece) (Err e) = writes_both held faults old between now (head ++ flat_map f (take i xs)) piece tt (Err e) so_far w in
        let at : Written now (head ++ flat_map f (take (i + 1) xs)) (Err e) = subst (λ t. Written now t (Err e)) (pieces_more i x piece inside here is) both in
        let longer : Written now (head ++ flat_map f (take (i + 1) xs) ++ (flat_map f (drop (i + 1) xs) ++ rest)) (Err d) =
        writes_no_more {S = Unit {0}} {T = Unit {0}} e d (passage held faults old now) (head ++ flat_map f (take (i + 1) xs)) (flat_map f (drop (i + 1) xs) ++ rest) at in
        subst (λ t. Written now t (Err d))
        (sym (append_assoc (head ++ flat_map f (take (i + 1) xs)) (flat_map f (drop (i + 1) xs)) rest) ∙ ap (λ t. t ++ rest) (pieces_rest (i + 1))) longer

    -- all pieces were written
    pub all_written : (now : K) (i : ℕ) → length xs ≤ i → Written now (head ++ flat_map f (take i xs)) (Ok tt) → Written now (head ++ flat_map f xs) (Ok tt)
    all_written now i ended w = subst (λ ys. Written now (head ++ flat_map f ys) (Ok tt)) (take_all i xs ended) w

    -- a piece was not written whole, and nothing was to follow
    pub last_failed : (between now : K) (i : ℕ) (x : X) (piece : List ℕ) (e d : WriteFault) → Written between (head ++ flat_map f (take i xs)) (Ok tt) → i < length xs → x ≡ get_or xs i x
        → piece ≡ f x → WritesText {T = Unit {0}} {E = WriteFault} (passage held faults between now) piece (Err e) → Written now (head ++ flat_map f xs) (Err d)
    last_failed between now i x piece e d so_far inside here is w =
        subst (λ t. Written now t (Err d)) (append-nil (head ++ flat_map f xs)) (piece_failed between now i x piece [] e d so_far inside here is w)

module _ {K : Type 0} (held : K → Option (List ℕ)) (faults : K → ℕ) (zero one two three : K) (a b c : List ℕ) where
  -- the first of three texts was not written whole
  pub first_failed : (e f : WriteFault) → WritesText {T = Unit {0}} {E = WriteFault} (passage held faults zero one) a (Err e)
      → WritesText {T = Unit {0}} {E = WriteFault} (passage held faults zero one) (a ++ b ++ c) (Err f)
  first_failed e f w = rw append_assoc (writes_no_more e f (passage held faults zero one) a (b ++ c) w)

  -- the second of three texts was not written whole
  pub second_failed : (e f : WriteFault) → WritesText {T = Unit {0}} {E = WriteFault} (passage held faults zero one) a (Ok tt)
      → WritesText {T = Unit {0}} {E = WriteFault} (passage held faults one two) b (Err e)
      → WritesText {T = Unit {0}} {E = WriteFault} (passage held faults zero two) (a ++ b ++ c) (Err f)
  second_failed e f v w =
      let both : WritesText {T = Unit {0}} {E = WriteFault} (passage held faults zero two) (a ++ b) (Err e) = writes_both held faults zero one two a b tt (Err e) v w in
      writes_no_more e f (passage held faults zero two) (a ++ b) c both

  -- three texts in turn
  pub three_written : (result : Result (Unit {0}) WriteFault) → WritesText {T = Unit {0}} {E = WriteFault} (passage held faults zero one) a (Ok tt)
      → WritesText {T = Unit {0}} {E = WriteFault} (passage held faults one two) b (Ok tt) → WritesText (passage held faults two three) c result
      → WritesText (passage held faults zero three) (a ++ b ++ c) result
  three_written result u v w =
      let both : WritesText {T = Unit {0}} {E = WriteFault} (passage held faults zero two) (a ++ b) (Ok tt) = writes_both held faults zero one two a b tt (Ok tt) u v in
      writes_both held faults zero two three (a ++ b) c tt result both w
