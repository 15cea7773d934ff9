-- What an edge is at its two ends where an input and an output are put in.
use Rattle.std.proofs.Common.{◌≡◌, ℕ, false, refl}
use Rattle.bt_net.specs.declared.network.Edge.{Edge}
use Rattle.bt_net.specs.declared.network.Start.{Start}
use Rattle.bt_net.specs.declared.network.Start.TheVariants as from
use Rattle.bt_net.specs.declared.network.Target.{Target}
use Rattle.bt_net.specs.declared.network.Target.TheVariants as to
use Rattle.bt_net.specs.Network.{leaves, enters, is_input, is_output}
use Rattle.bt_flow.specs.Properties.{is_last}
use Rattle.bt_gen.specs.Loops.{moved, start_moved, target_moved, edge_moved, entry, exit}
use Rattle.bt_gen.proofs.Put.{same_moved, never_at, never_moved}

-- an edge of such ends
abbrev edge : Start → Target → ℕ → Edge
edge st tg cap = record { start = st; target = tg; cap = cap }

leaves_moved : (k i : ℕ) (st : Start) (t u : Target) (c : ℕ) → leaves k (edge (start_moved i st) t c) ≡ leaves k (edge st u c)
leaves_moved k i (from.Input j) t u c = refl
leaves_moved k i (from.Split j) t u c = refl

enters_moved : (k o : ℕ) (tg : Target) (t u : Start) (c : ℕ) → enters k (edge t (target_moved o tg) c) ≡ enters k (edge u tg c)
enters_moved k o (to.Split j) t u c = refl
enters_moved k o (to.Output j) t u c = refl

last_moved : (o : ℕ) (tg : Target) (t u : Start) (c : ℕ) → is_last (edge t (target_moved o tg) c) ≡ is_last (edge u tg c)
last_moved o (to.Split j) t u c = refl
last_moved o (to.Output j) t u c = refl

input_moved : (k i : ℕ) (st : Start) (t u : Target) (c : ℕ) → is_input (moved i k) (edge (start_moved i st) t c) ≡ is_input k (edge st u c)
input_moved k i (from.Input j) t u c = same_moved i j k
input_moved k i (from.Split j) t u c = refl

input_never : (i : ℕ) (st : Start) (t : Target) (c : ℕ) → is_input i (edge (start_moved i st) t c) ≡ false
input_never i (from.Input j) t c = never_at i j
input_never i (from.Split j) t c = refl

output_moved : (k o : ℕ) (tg : Target) (t u : Start) (c : ℕ) → is_output (moved o k) (edge t (target_moved o tg) c) ≡ is_output k (edge u tg c)
output_moved k o (to.Output j) t u c = same_moved o j k
output_moved k o (to.Split j) t u c = refl

output_never : (o : ℕ) (tg : Target) (t : Start) (c : ℕ) → is_output o (edge t (target_moved o tg) c) ≡ false
output_never o (to.Output j) t c = never_at o j
output_never o (to.Split j) t c = refl

module _ (i o : ℕ) (e : Edge) where
  -- an edge that is moved
  pub moved_leaves : (k : ℕ) → leaves k (edge_moved i o e) ≡ leaves k e
  moved_leaves k = leaves_moved k i e.start (target_moved o e.target) e.target e.cap

  pub moved_enters : (k : ℕ) → enters k (edge_moved i o e) ≡ enters k e
  moved_enters k = enters_moved k o e.target (start_moved i e.start) e.start e.cap

  pub moved_last : is_last (edge_moved i o e) ≡ is_last e
  moved_last = last_moved o e.target (start_moved i e.start) e.start e.cap

  pub moved_input : (k : ℕ) → is_input (moved i k) (edge_moved i o e) ≡ is_input k e
  moved_input k = input_moved k i e.start (target_moved o e.target) e.target e.cap

  pub moved_no_input : is_input i (edge_moved i o e) ≡ false
  moved_no_input = input_never i e.start (target_moved o e.target) e.cap

  pub moved_output : (k : ℕ) → is_output (moved o k) (edge_moved i o e) ≡ is_output k e
  moved_output k = output_moved k o e.target (start_moved i e.start) e.start e.cap

  pub moved_no_output : is_output o (edge_moved i o e) ≡ false
  moved_no_output = output_never o e.target (start_moved i e.start) e.cap

  -- the edge from the input
  pub entry_enters : (k : ℕ) → enters k (entry i o e) ≡ enters k e
  entry_enters k = enters_moved k o e.target (from.Input i) e.start e.cap

  pub entry_last : is_last (entry i o e) ≡ is_last e
  entry_last = last_moved o e.target (from.Input i) e.start e.cap

  pub entry_no_input : (k : ℕ) → is_input (moved i k) (entry i o e) ≡ false
  entry_no_input k = never_moved i k

  pub entry_output : (k : ℕ) → is_output (moved o k) (entry i o e) ≡ is_output k e
  entry_output k = output_moved k o e.target (from.Input i) e.start e.cap

  pub entry_no_output : is_output o (entry i o e) ≡ false
  entry_no_output = output_never o e.target (from.Input i) e.cap

  -- the edge to the output
  pub exit_leaves : (k : ℕ) → leaves k (exit i o e) ≡ leaves k e
  exit_leaves k = leaves_moved k i e.start (to.Output o) e.target e.cap

  pub exit_no_output : (k : ℕ) → is_output (moved o k) (exit i o e) ≡ false
  exit_no_output k = never_moved o k

-- an edge from a splitter starts at no input, nor does it where it is cut
split_no_input : (st : Start) (s k : ℕ) (t : Target) (c : ℕ) → st ≡ from.Split s → is_input k (edge st t c) ≡ false
split_no_input (from.Split j) s k t c e = refl
split_no_input (from.Input j) s k t c e = absurd cc

pub joined_no_input : (e : Edge) (s k : ℕ) → e.start ≡ from.Split s → is_input k e ≡ false
joined_no_input e s k h = split_no_input e.start s k e.target e.cap h

split_moved : (i : ℕ) (st : Start) (s k : ℕ) (t : Target) (c : ℕ) → st ≡ from.Split s → is_input k (edge (start_moved i st) t c) ≡ false
split_moved i (from.Split j) s k t c e = refl
split_moved i (from.Input j) s k t c e = absurd cc

pub exit_no_input : (i o : ℕ) (e : Edge) (s k : ℕ) → e.start ≡ from.Split s → is_input k (exit i o e) ≡ false
exit_no_input i o e s k h = split_moved i e.start s k (to.Output o) e.cap h
