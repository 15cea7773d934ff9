-- The edges of a network: their caps, those that pass a test, and those of inputs and of outputs.
use Rattle.std.proofs.Common.{◌≡◌, ℕ, ◌<◌, ◌+◌, Bool, IsTrue, List, [], ◌∷◌, length, get_or, ap, ◌∙◌, refl, subst, arith}
use Rattle.std.specs.List.{AllByRecursion}
use Rattle.std.proofs.lemmas.List.{get_or-map}
use Rattle.std.proofs.lemmas.Option.{slice_get_within, get_or_from_slice_get}
use Rattle.bt_net.specs.declared.network.Edge.{Edge}
use Rattle.bt_net.specs.Network.{Network, IsNetwork, is_input, is_output}
use Rattle.bt_flow.specs.declared.ports.Port.TheVariants.{One}
use Rattle.bt_flow.specs.declared.ports.Role.TheVariants.{FromInput, ToOutput}
use Rattle.bt_flow.specs.Ports.{numbers_where}
use Rattle.bt_flow.specs.Steady.{HasEdge}
use Rattle.bt_flow.proofs.Adding.{no_edge}
use Rattle.bt_flow.proofs.Each.{each_edge, numbers_from}
use Rattle.bt_flow.proofs.Numbers.{length-numbers_where, within}
use Rattle.bt_flow.specs.EndEdges.{input_edge, output_edge, cap_at}

-- the list has a first number, and it is one of them
first_holds : (P : ℕ → Type 0) (numbers : List ℕ) → 0 < length numbers → AllByRecursion P numbers → P (get_or numbers 0 0)
first_holds P [] l h = absurd (omega arith)
first_holds P (x ∷ xs) l h = h.0

only_one : (numbers : List ℕ) → length numbers ≡ 1 → get_or numbers 0 0 ∷ [] ≡ numbers
only_one [] l = absurd (omega arith)
only_one (x ∷ []) l = refl
only_one (x ∷ y ∷ numbers) l = absurd (omega arith)

module _ (n : Network) where
  -- the edge with a number has its cap
  pub cap_is : (a : ℕ) (e : Edge) → HasEdge n a e → cap_at n a ≡ e.cap
  cap_is a e h =
      let l = slice_get_within n.edges a e h in
      get_or-map (λ x. x.cap) n.edges a e 0 l ∙ ap (λ x. x.cap) (get_or_from_slice_get n.edges a e e h)

  -- the numbers of the edges that pass a test are of such edges
  abbrev pub IsEdgeWith : (Edge → Bool) → ℕ → Type 0
  IsEdgeWith p a = (e : Edge) × HasEdge n a e × IsTrue (p e)

  pub edges_with : (p : Edge → Bool) → AllByRecursion (IsEdgeWith p) (numbers_where p 0 n.edges)
  edges_with p = numbers_from p (IsEdgeWith p) 0 n.edges (λ i e h t. (e, subst (λ k. HasEdge n k e) (let z : i ≡ 0 + i = omega arith in z) h, t))

module _ (n : Network) (is : IsNetwork n) where
  -- the edge of an input, and of an output
  pub input_is : (i : ℕ) → i < n.inputs → IsEdgeWith n (is_input i) (input_edge n i)
  input_is i l =
      let one = is.wired.one_in i l in
      let long = length-numbers_where (is_input i) 0 n.edges in
      first_holds (IsEdgeWith n (is_input i)) (numbers_where (is_input i) 0 n.edges) (omega (arith, one, long)) (edges_with n (is_input i))

  pub output_is : (o : ℕ) → o < n.outputs → IsEdgeWith n (is_output o) (output_edge n o)
  output_is o l =
      let one = is.wired.one_out o l in
      let long = length-numbers_where (is_output o) 0 n.edges in
      first_holds (IsEdgeWith n (is_output o)) (numbers_where (is_output o) 0 n.edges) (omega (arith, one, long)) (edges_with n (is_output o))

  -- an edge from an input is the edge of that input
  pub edge_of_input : (i a : ℕ) (e : Edge) → HasEdge n a e → IsTrue (is_input i e) → (i < n.inputs) × (a ≡ input_edge n i)
  edge_of_input i a e h t =
      let l = slice_get_within n.edges a e h in
      let few = within n FromInput is a i no_edge l (ap (is_input i) (get_or_from_slice_get n.edges a e no_edge h) ∙ t) in
      let one = only_one (numbers_where (is_input i) 0 n.edges) (length-numbers_where (is_input i) 0 n.edges ∙ is.wired.one_in i few) in
      (few, each_edge n FromInput i (One (input_edge n i)) one (λ x. x ≡ input_edge n i) (refl, tt) a e h t)

  -- an edge to an output is the edge of that output
  pub edge_of_output : (o a : ℕ) (e : Edge) → HasEdge n a e → IsTrue (is_output o e) → (o < n.outputs) × (a ≡ output_edge n o)
  edge_of_output o a e h t =
      let l = slice_get_within n.edges a e h in
      let few = within n ToOutput is a o no_edge l (ap (is_output o) (get_or_from_slice_get n.edges a e no_edge h) ∙ t) in
      let one = only_one (numbers_where (is_output o) 0 n.edges) (length-numbers_where (is_output o) 0 n.edges ∙ is.wired.one_out o few) in
      (few, each_edge n ToOutput o (One (output_edge n o)) one (λ x. x ≡ output_edge n o) (refl, tt) a e h t)
