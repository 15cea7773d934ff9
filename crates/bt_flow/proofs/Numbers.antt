-- The numbers of the edges that pass a test, and of those that have a role.
use Rattle.std.proofs.Common.{◌≡◌, ℕ, ◌<◌, ◌≤◌, ◌+◌, ◌==◌, Bool, true, false, List, [], ◌∷◌, ◌++◌, length, take, get_or, cond, ap, sym, ◌∙◌, refl, subst, arith, inl, inr, set, append-nil}
use Rattle.std.specs.List.{count_by}
use Rattle.std.proofs.lemmas.List.{take_more, length-take-le, get_or-set_same, get_or-set_other}
use Rattle.std.proofs.lemmas.List.Sums.{sum_by-append, sum_by-take-drop, count_by_more_yes}
use Rattle.std.proofs.lemmas.Bool.{eqb-true, false≢true, cases_eq, eq-eqb, ne_eqb}
use Rattle.bt_net.specs.declared.network.TheConstants.{MOST_OF_EACH}
use Rattle.bt_net.specs.declared.network.Edge.{Edge}
use Rattle.bt_net.specs.declared.network.Start.TheVariants as from
use Rattle.bt_net.specs.declared.network.Target.TheVariants as to
use Rattle.bt_net.specs.declared.network.Start.{Start}
use Rattle.bt_net.specs.declared.network.Target.{Target}
use Rattle.bt_net.specs.Network.{Network, IsNetwork, StartsIn, EndsIn, is_input, is_output, leaves, enters}
use Rattle.bt_flow.specs.declared.ports.Port.{Port}
use Rattle.bt_flow.specs.declared.ports.Port.TheVariants.{Unused}
use Rattle.bt_flow.specs.declared.ports.Role.{Role}
use Rattle.bt_flow.specs.declared.ports.Role.TheVariants.{FromInput, ToOutput, OutOf, Into}
use Rattle.bt_flow.specs.Ports.{numbers_where, numbers_of, plays}

-- with one more edge
numbers_where-append : (p : Edge → Bool) (n : ℕ) (edges : List Edge) (e : Edge)
    → numbers_where p n (edges ++ e ∷ []) ≡ numbers_where p n edges ++ cond (p e) ((n + length edges) ∷ []) []
numbers_where-append p n [] e = elim (p e) as (λ b. cond b (n ∷ []) [] ≡ cond b ((n + 0) ∷ []) []) [ true ↦ ap (λ m. m ∷ []) (omega arith) | false ↦ refl ]
numbers_where-append p n (x ∷ edges) e =
    let again = numbers_where-append p (n + 1) edges e in
    let place : n + 1 + length edges ≡ n + length (x ∷ edges) = omega arith in
    let moved = again ∙ ap (λ m. numbers_where p (n + 1) edges ++ cond (p e) (m ∷ []) []) place in
    elim (p x) as (λ b. cond b (n ∷ numbers_where p (n + 1) (edges ++ e ∷ [])) (numbers_where p (n + 1) (edges ++ e ∷ []))
    ≡ cond b (n ∷ numbers_where p (n + 1) edges) (numbers_where p (n + 1) edges) ++ cond (p e) ((n + length (x ∷ edges)) ∷ []) [])
    [ true ↦ ap (λ l. n ∷ l) moved | false ↦ moved ]

-- there are as many as edges that pass
pub length-numbers_where : (p : Edge → Bool) (n : ℕ) (edges : List Edge) → length (numbers_where p n edges) ≡ count_by p edges
length-numbers_where p n [] = refl
length-numbers_where p n (x ∷ edges) =
    let one = long_one (p x) n (numbers_where p (n + 1) edges) in
    let again = length-numbers_where p (n + 1) edges in
    let split = sum_by-append (λ y. cond (p y) 1 0) (x ∷ []) edges in
    omega (arith, one, again, split)
  where
    long_one : (b : Bool) (m : ℕ) (ms : List ℕ) → length (cond b (m ∷ ms) ms) ≡ cond b 1 0 + length ms
    long_one true m ms = omega arith
    long_one false m ms = omega arith

-- one edge further
pub numbers_more : (p : Edge → Bool) (edges : List Edge) (i : ℕ) (d : Edge) → i < length edges
    → numbers_where p 0 (take (i + 1) edges) ≡ numbers_where p 0 (take i edges) ++ cond (p (get_or edges i d)) (i ∷ []) []
numbers_more p edges i d h =
    let long : length (take i edges) ≡ i = length-take-le i edges (omega arith) in
    ap (numbers_where p 0) (take_more edges i d h) ∙ numbers_where-append p 0 (take i edges) (get_or edges i d)
    ∙ ap (λ m. numbers_where p 0 (take i edges) ++ cond (p (get_or edges i d)) (m ∷ []) []) (let e : 0 + length (take i edges) ≡ i = omega arith in e)

-- a part from the front has no more that pass
count_by-take : (p : Edge → Bool) (edges : List Edge) (i : ℕ) → count_by p (take i edges) ≤ count_by p edges
count_by-take p edges i = let e = sum_by-take-drop (λ x. cond (p x) 1 0) edges i in omega (arith, e)

-- how many numbers a role has
abbrev pub ends_of : Role → Network → ℕ
ends_of FromInput n = n.inputs
ends_of ToOutput n = n.outputs
ends_of OutOf n = n.splitters
ends_of Into n = n.splitters

pub few_ends : (n : Network) (r : Role) → IsNetwork n → ends_of r n ≤ MOST_OF_EACH
few_ends n FromInput h = h.few_inputs
few_ends n ToOutput h = h.few_outputs
few_ends n OutOf h = h.few_splitters
few_ends n Into h = h.few_splitters

-- at each number a role has at most two edges
pub few_at : (n : Network) (r : Role) → IsNetwork n → (k : ℕ) → k < ends_of r n → count_by (plays r k) n.edges ≤ 2
few_at n FromInput h k l = let e = h.wired.one_in k l in omega (arith, e)
few_at n ToOutput h k l = let e = h.wired.one_out k l in omega (arith, e)
few_at n OutOf h k l = h.wired.few_out k l
few_at n Into h k l = h.wired.few_in k l

input_within : (n : Network) (st : Start) (t : Target) (c k : ℕ) → StartsIn n st → is_input k (record { start = st; target = t; cap = c }) ≡ true → k < n.inputs
input_within n (from.Input i) t c k h e = subst (λ m. m < n.inputs) (eqb-true i k e) h
input_within n (from.Split i) t c k h e = absurd (false≢true e)

leaves_within : (n : Network) (st : Start) (t : Target) (c k : ℕ) → StartsIn n st → leaves k (record { start = st; target = t; cap = c }) ≡ true → k < n.splitters
leaves_within n (from.Split i) t c k h e = subst (λ m. m < n.splitters) (eqb-true i k e) h
leaves_within n (from.Input i) t c k h e = absurd (false≢true e)

output_within : (n : Network) (st : Start) (t : Target) (c k : ℕ) → EndsIn n t → is_output k (record { start = st; target = t; cap = c }) ≡ true → k < n.outputs
output_within n st (to.Output o) c k h e = subst (λ m. m < n.outputs) (eqb-true o k e) h
output_within n st (to.Split o) c k h e = absurd (false≢true e)

enters_within : (n : Network) (st : Start) (t : Target) (c k : ℕ) → EndsIn n t → enters k (record { start = st; target = t; cap = c }) ≡ true → k < n.splitters
enters_within n st (to.Split o) c k h e = subst (λ m. m < n.splitters) (eqb-true o k e) h
enters_within n st (to.Output o) c k h e = absurd (false≢true e)

-- an edge of a network has its roles at numbers of the network
pub within : (n : Network) (r : Role) → IsNetwork n → (a k : ℕ) (d : Edge) → a < length n.edges → plays r k (get_or n.edges a d) ≡ true → k < ends_of r n
within n FromInput h a k d l e = let x = get_or n.edges a d in input_within n x.start x.target x.cap k (h.wired.starts a d l) e
within n ToOutput h a k d l e = let x = get_or n.edges a d in output_within n x.start x.target x.cap k (h.wired.targets a d l) e
within n OutOf h a k d l e = let x = get_or n.edges a d in leaves_within n x.start x.target x.cap k (h.wired.starts a d l) e
within n Into h a k d l e = let x = get_or n.edges a d in enters_within n x.start x.target x.cap k (h.wired.targets a d l) e

-- before an edge with a role at a number, at most one other has it there
pub room_for : (n : Network) (r : Role) → IsNetwork n → (a k : ℕ) (d : Edge) → a < length n.edges → plays r k (get_or n.edges a d) ≡ true
    → length (numbers_where (plays r k) 0 (take a n.edges)) < 2
room_for n r h a k d l e =
    let most : count_by (plays r k) n.edges ≤ 2 = few_at n r h k (within n r h a k d l e) in
    let more = count_by_more_yes (plays r k) n.edges a d l e in
    let part = count_by-take (plays r k) n.edges (a + 1) in
    let long = length-numbers_where (plays r k) 0 (take a n.edges) in
    omega (arith, most, more, part, long)

-- the first edges of a network fill these ports
abbrev pub Fill : Network → Role → ℕ → List Port → Type 0
Fill n r place ports = (k : ℕ) → k < MOST_OF_EACH → (d : Port) → numbers_of (get_or ports k d) ≡ numbers_where (plays r k) 0 (take place n.edges)

numbers_with : (p : Edge → Bool) (edges : List Edge) (i : ℕ) (d : Edge) (b : Bool) (xs : List ℕ) → i < length edges → p (get_or edges i d) ≡ b
    → xs ≡ numbers_where p 0 (take i edges) ++ cond b (i ∷ []) [] → xs ≡ numbers_where p 0 (take (i + 1) edges)
numbers_with p edges i d b xs h e x = x ∙ ap (λ v. numbers_where p 0 (take i edges) ++ cond v (i ∷ []) []) (sym e) ∙ sym (numbers_more p edges i d h)

-- an edge without the role changes no port
pub filled_without : (n : Network) (r : Role) (edges : List Edge) (place : ℕ) (ports : List Port) (d : Edge) → edges ≡ n.edges → place < length edges
    → ((k : ℕ) → plays r k (get_or edges place d) ≡ false) → Fill n r place ports → Fill n r (place + 1) ports
filled_without n r edges place ports d same there not_there h =
    let l : place < length n.edges = subst (λ x. place < length x) same there in
    let none : (k : ℕ) → plays r k (get_or n.edges place d) ≡ false = subst (λ x. (k : ℕ) → plays r k (get_or x place d) ≡ false) same not_there in
    λ k below e. numbers_with (plays r k) n.edges place d false (numbers_of (get_or ports k e)) l (none k) (h k below e ∙ sym (append-nil (numbers_where (plays r k) 0 (take place n.edges))))

-- an edge with the role at a number joins the port there
pub filled_with : (n : Network) (r : Role) (edges : List Edge) (place : ℕ) (ports : List Port) (d : Edge) (number : ℕ) (port : Port) → edges ≡ n.edges → place < length edges
    → length ports ≡ MOST_OF_EACH → number < MOST_OF_EACH → ((k : ℕ) → plays r k (get_or edges place d) ≡ (number == k))
    → numbers_of port ≡ numbers_of (get_or ports number Unused) ++ place ∷ [] → Fill n r place ports → Fill n r (place + 1) (set ports number port)
filled_with n r edges place ports d number port same at long few there more h =
    let l : place < length n.edges = subst (λ x. place < length x) same at in
    let some : (k : ℕ) → plays r k (get_or n.edges place d) ≡ (number == k) = subst (λ x. (k : ℕ) → plays r k (get_or x place d) ≡ (number == k)) same there in
    λ k below e. elim (cases_eq k number) as (λ _. numbers_of (get_or (set ports number port) k e) ≡ numbers_where (plays r k) 0 (take (place + 1) n.edges)) [
      | inl equal ↦
          let inside : number < length ports = omega arith in
          let mine = ap numbers_of (get_or-set_same ports number port e inside) ∙ more ∙ ap (λ l. l ++ place ∷ []) (h number few Unused) in
          subst (λ m. numbers_of (get_or (set ports number port) m e) ≡ numbers_where (plays r m) 0 (take (place + 1) n.edges)) (sym equal)
          (numbers_with (plays r number) n.edges place d true (numbers_of (get_or (set ports number port) number e)) l (some number ∙ eq-eqb number number refl) mine)
      | inr other ↦
          numbers_with (plays r k) n.edges place d false (numbers_of (get_or (set ports number port) k e)) l (some k ∙ ne_eqb number k (λ q. other (sym q)))
          (ap numbers_of (get_or-set_other ports number k port e other) ∙ h k below e ∙ sym (append-nil (numbers_where (plays r k) 0 (take place n.edges))))
    ]

-- a number at which an edge has a role is below MOST_OF_EACH
pub number_fits : (n : Network) (r : Role) → IsNetwork n → (edges : List Edge) (a k : ℕ) (d : Edge) → edges ≡ n.edges → a < length edges
    → ((m : ℕ) → plays r m (get_or edges a d) ≡ (k == m)) → k < MOST_OF_EACH
number_fits n r h edges a k d same l e =
    let there : a < length n.edges = subst (λ x. a < length x) same l in
    let mine : plays r k (get_or n.edges a d) ≡ true = subst (λ x. plays r k (get_or x a d) ≡ (k == k)) same (e k) ∙ eq-eqb k k refl in
    let low = within n r h a k d there mine in
    let few = few_ends n r h in
    omega (arith, low, few)

-- a port at which an edge joins has room for it
pub port_has_room : (n : Network) (r : Role) → IsNetwork n → (edges : List Edge) (a k : ℕ) (d : Edge) (ports : List Port) → edges ≡ n.edges → a < length edges
    → ((m : ℕ) → plays r m (get_or edges a d) ≡ (k == m)) → Fill n r a ports → length (numbers_of (get_or ports k Unused)) < 2
port_has_room n r h edges a k d ports same l e fill =
    let there : a < length n.edges = subst (λ x. a < length x) same l in
    let mine : plays r k (get_or n.edges a d) ≡ true = subst (λ x. plays r k (get_or x a d) ≡ (k == k)) same (e k) ∙ eq-eqb k k refl in
    let room = room_for n r h a k d there mine in
    let is = ap length (fill k (number_fits n r h edges a k d same l e) Unused) in
    omega (arith, room, is)
