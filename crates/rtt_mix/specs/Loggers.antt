-- What a mixer stands for whose packets are noted in a log.
use Rattle.std.specs.Prelude.{ℕ, ◌^◌, List, []}
use Rattle.rtt_base.specs.declared.text_packets.PayloadTypes.{PayloadTypes}
use Rattle.file_spec.specs.Conference.{Conference}
use Rattle.mixer_spec.specs.Setups.{Setup, setup}
use Rattle.mixer_spec.specs.Table.{Call}
use Rattle.mixer_posts.specs.States.{SendingState}
use Rattle.mixer_posts.specs.Standing.{SendsFor}
use Rattle.mixer_posts.specs.Streams.{payload_types_at}
use Rattle.sent_log.specs.States.{State}
use Rattle.rtt_mix.specs.Logs.{HasSent, sources_in}

-- These calls were made of it, each turn at a moment that a recording can hold, and the log has what they send.
abbrev pub RecordsFor : SendingState State → Setup → (ℕ → PayloadTypes) → List Call → Type 0
RecordsFor m s payload_types calls = SendsFor (λ log s payload_types posts. HasSent s payload_types log posts) sources_in (2 ^ 32) m s payload_types calls

-- it is one for this conference, of which no call was made
abbrev pub IsUncalled : Conference → SendingState State → Type 0
IsUncalled c m = RecordsFor m (setup c) (payload_types_at c) []
