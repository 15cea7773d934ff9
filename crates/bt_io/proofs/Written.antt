-- One text after another on a sink.
use Rattle.std.proofs.Common.{ℕ, ◌+◌, List, ◌++◌, length, take, Some, None, Ok, Err, arith, append_assoc, length-append}
use Rattle.std.proofs.lemmas.List.{take-append-le}
use Rattle.std.proofs.Math.Seq.{take-append-add}
use Rattle.std.specs.declared.option.Option.{Option}
use Rattle.std.specs.declared.result.Result.{Result}
use Rattle.std.specs.Io.KnownBytes.{Appends}
use Rattle.bt_io.specs.Bytes.{AppendsPart, WritesText}
use Rattle.bt_io.specs.Passages.{Passage, passage}

-- two texts, one after the other, are one text
appends_both : (first second third : Option (List ℕ)) (front back : List ℕ) → Appends first second front → Appends second third back
    → Appends first third (front ++ back)
appends_both None second third front back p q = tt
appends_both (Some xs) None third front back p q = absurd p
appends_both (Some xs) (Some ys) None front back p q = absurd q
appends_both (Some xs) (Some ys) (Some zs) front back p q = rw (q, p, append_assoc)

-- a proper prefix of a text is one of each longer text
part_of_longer : (sink : Passage) (front back : List ℕ) → AppendsPart sink front → AppendsPart sink (front ++ back)
part_of_longer sink front back (n, less, p) =
    (n, omega (arith, length-append front back), rw (take-append-le n front back (omega (arith, less))) p)

-- a text that was not written whole leaves each longer text unwritten too, also where the fault is handed on as another
pub writes_no_more : {S T E F : Type 0} (fault : E) (other : F) (sink : Passage) (front back : List ℕ)
    → WritesText {T = S} {E = E} sink front (Err fault) → WritesText {T = T} {E = F} sink (front ++ back) (Err other)
writes_no_more fault other sink front back p = record {
  whole = tt;
  part = part_of_longer sink front back p.part;
  fault = p.fault;
  count = p.count;
}

module _ {K : Type 0} (held : K → Option (List ℕ)) (faults : K → ℕ) (first second third : K) (front back : List ℕ) where
  -- a text and a proper prefix of the next are a proper prefix of both
  part_after : Appends (held first) (held second) front → AppendsPart (passage held faults second third) back
      → AppendsPart (passage held faults first third) (front ++ back)
  part_after p (n, less, q) = (
    length front + n,
    omega (arith, length-append front back),
    rw (take-append-add front back n) (appends_both (held first) (held second) (held third) front (take n back) p q),
  )

  -- after a text that was written whole, what happens to the next happens to both
  pub writes_both : {S T E F : Type 0} (x : S) (result : Result T F)
      → WritesText {T = S} {E = E} (passage held faults first second) front (Ok x) → WritesText (passage held faults second third) back result
      → WritesText (passage held faults first third) (front ++ back) result
  writes_both x (Ok y) p q = record {
    whole = appends_both (held first) (held second) (held third) front back p.whole q.whole;
    part = tt;
    fault = tt;
    count = omega (arith, p.count, q.count);
  }
  writes_both x (Err y) p q = record {
    whole = tt;
    part = part_after p.whole q.part;
    fault = record { risen = omega (arith, p.count, q.fault.risen); fits = q.fault.fits };
    count = omega (arith, p.count, q.count);
  }
