-- What each private function of `sift` promises.
use Rattle.std.specs.Prelude.{◌≡◌, false, List, ◌++◌, ℕ, suc, ◌+◌, ◌≤◌, eqb, option_to_list}
use Rattle.bits.specs.declared.Cur.{Cur}
use Rattle.bits.specs.declared.Limit.{Limit}
use Rattle.bits.specs.declared.Step.{Step}
use Rattle.bits.specs.Language.{pick, Bits, run, bit, past_payload}
use Rattle.bits.specs.View.{Took}
use Rattle.oamd.specs.declared.Gone.{Gone}
use Rattle.oamd.specs.declared.Programme.{Programme}
use Rattle.oamd.specs.Tables.{most_blocks}
use Rattle.oamd.specs.Element.{Known, frame}
use Rattle.oamd.specs.Payload.{oa_element_count}
use Rattle.oamd.specs.Sift.{Sifting, stopped, dropping, behind, gone_at, sift}
use Rattle.reader.specs.declared.Header.{Header}
use Rattle.reader.specs.declared.Scope.{Scope}
use Rattle.reader.specs.declared.State.{State}
use Rattle.reader.specs.declared.Turn.{Turn}
use Rattle.reader.specs.Steps.{Buffers, Sized, Holding, Underway, state_of, Scoped, Headed, whole_of}

-- a pass that a refusal ends, or that goes on
abbrev pub unless_refused : Cur → Sifting → Sifting
unless_refused d x = pick (eqb d.no 0) x (stopped d.no d.at.0 d.missing)

-- what a pass comes to behind elements that are dropped
abbrev pub prepend : List Gone → Sifting → Sifting
prepend gone x = record { gone = gone ++ x.gone; last = x.last }

-- what an element adds to those that are dropped
abbrev pub drops_of : Turn → List Gone
drops_of r = option_to_list r.gone

-- what is asked before an element of the pass
pub record Turning (l : Limit) (c : Cur) (scope : Scope) (st : State) (held : Buffers) : Type 0 where
  pub whole : l.inner ≡ false
  pub clean : c.no ≡ 0
  pub underway : Underway 1 scope st held

-- what is asked where an element that begins at c is refused, as d says
pub record RefusedAt (l : Limit) (c d : Cur) : Type 0 where
  pub whole : l.inner ≡ false
  pub clean : c.no ≡ 0
  pub told : d.no ≡ 0 → ⊥

-- an element that is refused, as d says, is dropped, and the pass goes on behind it as k does
pub record Dropped (alternate : ℕ) (st : State) (b : Bits) (c : Cur) (l : Limit) (d : Cur) (r : Turn) : Type 0 where
  pub state : r.state ≡ st
  pub same : (k : ℕ → Sifting) → pick (eqb d.no past_payload) (stopped d.no d.at.0 d.missing)
      (behind (run (frame alternate) b c.at.0 l.end.0 past_payload) (λ to. dropping (gone_at b c.at.0 to d.no d.at.0) (k to)))
      ≡ unless_refused r.cur (prepend (drops_of r) (k r.cur.at.0))

-- what an element of the pass comes to, where known has been read before it
pub record Turned (scope : Scope) (q : Programme) (known : Known) (st : State) (b : Bits) (c : Cur) (l : Limit) (t : List ℕ) (r : Turn) (held' : Buffers) : Type 0 where
  pub then : Known
  pub same : (n : ℕ) → sift q scope.alternate (suc n) (state_of known st.unknown) b c.at.0 l.end.0
      ≡ unless_refused r.cur (prepend (drops_of r) (sift q scope.alternate n (state_of then r.state.unknown) b r.cur.at.0 l.end.0))
  pub holding : Holding scope.objects then t r.state held'

-- the same whatever has been read
pub record TurnRead (scope : Scope) (st : State) (b : Bits) (c : Cur) (l : Limit) (held : Buffers) (r : Turn) (held' : Buffers) : Type 0 where
  pub sized : Sized scope.objects held'
  pub few : r.state.timing.blocks ≤ most_blocks
  pub next : r.state.unknown ≤ st.unknown + 1
  pub went : (q : Programme) (known : Known) (t : List ℕ) → Scoped q scope → Holding scope.objects known t st held → Turned scope q known st b c l t r held'

-- a payload of which the header and the element count have been read
pub record Counted (s : List ℕ) (l : Limit) (h : Step Header) (count : Cur) : Type 0 where
  pub headed : Headed s h
  pub whole : l ≡ whole_of s
  pub counts : Took oa_element_count 47 (bit s) h.cur l count
  pub clean : count.no ≡ 0
