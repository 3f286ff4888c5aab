-- One object's edits stay its own.
use Rattle.std.specs.Prelude.{◌≡◌, List, ◌++◌, ℕ, ◌+◌, ◌*◌, ◌<◌, length}
use Rattle.std.proofs.Math.Path.{sym, ap}
use Rattle.std.proofs.Common.{subst, subst₂, ◌∙◌, arith}
use Rattle.std.proofs.Math.ListN.{get_or}
use Rattle.bits.specs.Language.{bit, past_payload}
use Rattle.oamd.specs.declared.Programme.{Programme}
use Rattle.oamd.specs.declared.Timing.{Timing}
use Rattle.oamd.specs.declared.Scene.{Scene}
use Rattle.oamd.specs.Tables.{record_stride}
use Rattle.oamd.specs.Meaning.{resolve}
use Rattle.oamd.specs.Record.{Record, record_of, record_bytes_of}
use Rattle.oamd.specs.Time.{time_of, time_bytes_of}
use Rattle.oamd.specs.Payload.{Payload}
use Rattle.oamd.specs.Answer.{Outcome, accepted}
use Rattle.demands.specs.Terms.{tables_of}
use Rattle.demands.specs.Answers.{accepted_is}
use Rattle.demands.specs.Lemmas.Records.{trim-sized}
use Rattle.sources.specs.Chain.{objects_in, blocks_in, block_at, record_at}
use Rattle.sources.specs.SceneAt.{block_before, gain_before}
use Rattle.sources.specs.Given.{gain_byte, divergence_at, precise_at}
use Rattle.sources.specs.Lemmas.Records.{record-at, resolved_at}
use Rattle.own.specs.Own.{Within, Edit, LeadsTo, byte_of, Same, Stays, Own}
use Rattle.own.specs.Lemmas.Near.{leads-behind, same-muted, same-gain}
use Rattle.own.specs.Lemmas.Bytes.{laid-byte, same_byte, same-trim}

module _ (frame : ℕ) (s s' buffer trim : List ℕ) (q q' : Payload) (j : ℕ) (e : Edit frame s s' buffer trim q q' j) where
  abbrev out : Outcome
  out = accepted frame buffer trim (tables_of q) q.unknown

  abbrev out' : Outcome
  out' = accepted frame buffer trim (tables_of q') q'.unknown

  -- what the payload q has, q' has
  within : (i b : ℕ) → Within q i b → Within q' i b
  within i b w = record {
    object = subst (λ (n : ℕ). i < n) (ap (λ (p : Programme). p.objects) e.programme) w.object;
    block = subst (λ (n : ℕ). b < n) (ap (λ (t : Timing). t.blocks) e.timed) w.block;
  }

  scene : Payload → ℕ → ℕ → Scene
  scene q i b = (record_at q i b).scene

  made : (i b : ℕ) → Within q i b → scene q i b ≡ resolve (block_before (scene q) i b) (gain_before (scene q) i b) (block_at q i b)
  unfolding scene
  made i b w = resolved_at s e.read i b w.object w.block

  made' : (i b : ℕ) → Within q i b → scene q' i b ≡ resolve (block_before (scene q') i b) (gain_before (scene q') i b) (block_at q' i b)
  unfolding scene
  made' i b w = let v = within i b w in resolved_at s' e.read' i b v.object v.block

  -- a byte of another object is the same; its gain is, where it does not come from object j
  byte : (i b k : ℕ) → Within q i b → k < record_stride → (i ≡ j → ⊥) → (k ≡ gain_byte → LeadsTo (block_at q) j i b → ⊥) → Same q out out' i b k
  unfolding scene
  byte i b k w l other away =
      let d = e.differ in
      let r : record_at q i b ≡ record_of _ (divergence_at q i b) (precise_at q i b) = record-at s e.read i b in
      let r' : record_at q' i b ≡ record_of _ (divergence_at q' i b) (precise_at q' i b) = record-at s' e.read' i b in
      laid-byte frame s buffer e.read i b k w l
      ∙ same_byte (record_at q i b) (record_at q' i b) (time_bytes_of (time_of frame (tables_of q).timing (i * blocks_in q + b))) k
      (same-muted j q q' (scene q) (scene q') made made' d.blocks i b w other)
      (ap (λ (r : Record). r.divergence) r ∙ d.divergence i b w other ∙ ap (λ (r : Record). r.divergence) (sym r'))
      (ap (λ (r : Record). r.precise) r ∙ d.precise i b w other ∙ ap (λ (r : Record). r.precise) (sym r'))
      (λ g. same-gain j q q' (scene q) (scene q') made made' d.blocks i b w (away g))
      ∙ sym (subst (λ (t : Timing). byte_of t.blocks i b k out'.buffer ≡ get_or (record_bytes_of (record_at q' i b) ++ time_bytes_of (time_of frame t (i * t.blocks + b))) k 0)
      (sym e.timed) (laid-byte frame s' buffer e.read' i b k (within i b w) l))

  stays : Stays j q out out'
  stays = record {
    before = λ i b k w l m. byte i b k w l (λ e. omega arith) (λ e x. let n = leads-behind (block_at q) j x in omega arith);
    behind = λ i b k w l m other. byte i b k w l (λ e. omega arith) (λ e. absurd (other e));
    gain = λ i b w m away. byte i b gain_byte w (omega arith) (λ e. omega arith) (λ e. away);
    trim =
        let x = trim-sized (bit s) 0 (8 * length s) past_payload e.read in
        let x' = trim-sized (bit s') 0 (8 * length s') past_payload e.read' in
        same-trim (objects_in q) j (tables_of q).trim (tables_of q').trim trim x.0 x'.0 x.1 (x'.1 ∙ ap (λ (p : Programme). p.objects) (sym e.programme))
        e.present e.differ.trim;
  }

pub own : Own
own frame s s' buffer trim q q' j e =
    subst₂ (Stays j q) (sym (accepted_is frame s buffer trim q e.to e.accepted e.read)) (sym (accepted_is frame s' buffer trim q' e.to' e.accepted' e.read'))
    (stays frame s s' buffer trim q q' j e)
