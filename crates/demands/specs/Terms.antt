-- Words that the statements share.
use Rattle.std.specs.Prelude.{List, ℕ, ◌*◌, length}
use Rattle.bits.specs.Language.{Res, P, run, bit, past_payload}
use Rattle.oamd.specs.Payload.{Payload, object_audio_metadata_payload, Tables, tables}

-- what the reader p answers on the bytes s, from the bit at on
abbrev pub runs : {A : Type 0} → P A → List ℕ → ℕ → Res A
runs p s at = run p (bit s) at (8 * length s) past_payload

-- what the reader of payloads answers on the bytes s
abbrev pub parsed : List ℕ → Res Payload
parsed s = runs object_audio_metadata_payload s 0

-- the tables of a payload as read
abbrev pub tables_of : Payload → Tables
tables_of q = tables q.programme q.known
