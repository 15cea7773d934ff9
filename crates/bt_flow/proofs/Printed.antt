-- The text of a state as it is written.
use Rattle.std.proofs.Common.{◌≡◌, ℕ, List, [], ◌∷◌, ◌++◌, map, refl, ap, inr, append_assoc, codes}
use Rattle.std.proofs.lemmas.List.Elements.{All-nil}
use Rattle.bt_text.specs.Blanks.{IsBlank}
use Rattle.bt_text.specs.Lines.{line}
use Rattle.bt_frac.specs.Texts.{frac_text}
use Rattle.bt_flow.specs.declared.property.Property.{Property}
use Rattle.bt_flow.specs.Names.{property_name}
use Rattle.bt_flow.specs.States.{Fractions}
use Rattle.bt_flow.specs.StateText.{mark_text, spaced, edges_text, printed_state}
use Rattle.bt_flow.specs.StateReading.{PrintedStateIsRead}
use Rattle.bt_flow.specs.inner.Printing.{words, head_text}

pub words_spaced : {A : Type 0} (word : A → List ℕ) (items : List A) → words word items ≡ spaced (map word items)
words_spaced word [] = refl
words_spaced word (x ∷ xs) = ap (λ t. (codes " " ++ word x) ++ t) (words_spaced word xs)

six_lines : (a b c d e : List ℕ) → (line a ++ (line b ++ line c)) ++ (line d ++ line e) ++ codes "end\n" ≡ line a ++ line b ++ line c ++ line d ++ line e ++ codes "end" ++ 10 ∷ []
six_lines a b c d e = simp append_assoc

-- the parts of the text make the whole
pub parts_are : (p : Property) (t : Fractions) → head_text p t ++ edges_text t ++ codes "end\n" ≡ printed_state p t
parts_are p t =
    six_lines (codes "no " ++ property_name p) (codes "load" ++ spaced (map frac_text t.loads)) (codes "room" ++ spaced (map frac_text t.rooms)) (codes "flow" ++ spaced (map frac_text t.flows))
    (codes "mark" ++ spaced (map mark_text t.backed))

-- what is written of a state is read as that state
pub printed_is_read : PrintedStateIsRead
printed_is_read n p t lowest fits = (fits, record { lowest = lowest; text = inr ([], All-nil IsBlank, refl) })
