-- An ear that is told and gives, and what is written of it.
use Rattle.std.proofs.Common.{◌≡◌, ℕ, ◌≤◌, true, false, Some, Ok, Err, Result, List, [], ◌∷◌, ◌++◌, length, refl, ap, sym, ◌∙◌, subst, append-nil, append_assoc}
use Rattle.std.specs.Prelude.{IfOk}
use Rattle.std.proofs.lemmas.Grind.{flat_map-append}
use Rattle.wire_spec.specs.declared.faults.TextFault.{TextFault}
use Rattle.wire_spec.specs.Packets.{Packet, Arrival}
use Rattle.wire_spec.specs.Text.{text_of}
use Rattle.wire_spec.specs.Dump.{Item, Recording, with_item, Whole, arrivals_after, arrivals_with, dump, usual_limit}
use Rattle.rtpdump_io.specs.declared.readers.DumpReader.{DumpReader}
use Rattle.rtpdump_io.specs.Reading.{nothing, to_come}
use Rattle.rtpdump_io.proofs.Records.{ReadSome}
use Rattle.stream_spec.specs.Ready.{Chunk, chunks}
use Rattle.command_spec.specs.declared.requests.ReadRequest.{ReadRequest}
use Rattle.command_spec.specs.Reading.{usual_wait, arrivals_of, records_of}
use Rattle.mixer_spec.proofs.Recordings.{recordings_law}
use Rattle.receiver.specs.declared.cuts.TextCut.TheVariants.{Never}
use Rattle.receiver.specs.Cuts.{chunks_given}
use Rattle.receiver.proofs.HandedOut.{never_cut}
use Rattle.command_spec.specs.Transcripts.{chunk_line, transcript_view}
use Rattle.reorder_buffer.specs.Stories.{Story, Given, begun, ended}
use Rattle.receiver.specs.declared.settings.EarSettings.{EarSettings}
use Rattle.receiver.specs.declared.ears.Ear.{Ear}
use Rattle.receiver.specs.Hears.{AllReady, Becomes, Gave, GaveReady, GivesChunk, GivesNone, IsGiving, is_finished, is_quiet, arrival_count, text_for, told}
use Rattle.receiver.specs.EarPlain.{GivesPlain}
use Rattle.receiver.proofs.ReadyBy.{told_arrived}
use Rattle.recording_views.specs.Writing.{AreLines, HasWritten, IsBegunFor, IsTranscript, Texts, Written, WritesAll, WritesEnd, WritesItem, WritesPacket, WritesReady, WritesRecording, WritesText, asked_of, lines_of}

-- ---- what is always so
pub still_giving : (old new : Ear) (c : Chunk) → GivesChunk old new c → IsGiving old → IsGiving new
still_giving old new c g i = let m = g i.0 i.1 i.2 i.3 i.4 in (i.0, i.1, record i.2 { given = m.0 }, i.3 ++ c ∷ [], m.1)

pub rests_giving : (old new : Ear) → GivesNone old new → IsGiving old → IsGiving new
rests_giving old new g i = let m = g i.0 i.1 i.2 i.3 i.4 in (i.0, i.1, record i.2 { given = m.0 }, i.3, m.1)

pub plain_giving : (old new : Ear) (now : ℕ) (octets : List ℕ) (more : List Chunk) → GivesPlain old new now octets more → IsGiving old → IsGiving new
plain_giving old new now octets more g i = let m = g i.0 i.1 i.2 i.3 i.4 in (i.0, i.1, record (told i.2 now (text_for i.0 octets)) { given = m.0 }, i.3 ++ more, m.1)

pub becomes_giving : (old new : Ear) (f : EarSettings → Story → Story) → Becomes old new f → IsGiving old → IsGiving new
becomes_giving old new f b i = (i.0, i.1, f i.0 i.2, i.3, b.gave i.0 i.1 i.2 i.3 i.4)

-- ---- nothing came yet
pub begins : {E : Type 0} (r : Result Ear E) (settings : EarSettings) (sources : List ℕ) (request : ReadRequest) → settings ≡ asked_of request → sources ≡ request.source ∷ []
    → IfOk r (λ ear. (source : ℕ) → sources ≡ source ∷ [] → Gave ear settings source (begun settings.wait) []) → IfOk r (IsBegunFor request)
begins (Ok ear) settings sources request e s g = subst (λ (k : EarSettings). Gave ear k request.source (begun k.wait) []) e (g request.source s)
begins (Err x) settings sources request e s g = tt

pub begins_giving : {E : Type 0} (r : Result Ear E) (settings : EarSettings) (sources : List ℕ) (request : ReadRequest) → sources ≡ request.source ∷ []
    → IfOk r (λ ear. (source : ℕ) → sources ≡ source ∷ [] → Gave ear settings source (begun settings.wait) []) → IfOk r (λ ear. ∥ IsGiving ear ∥₁)
begins_giving (Ok ear) settings sources request s g = ∣ (settings, request.source, begun settings.wait, [], g request.source s) ∣₁
begins_giving (Err x) settings sources request s g = tt

-- ---- a packet
-- what is told does not depend on what was given
told_given : (story : Story) (at : ℕ) (given more : List Given) (x : Result Packet TextFault) → record (told (record story { given = given }) at x) { given = more } ≡ record (told story at x) { given = more }
told_given story at given more (Ok p) = refl
told_given story at given more (Err f) = refl

told_still : (story : Story) (at : ℕ) (given : List Given) (x : Result Packet TextFault) → told (record story { given = given }) at x ≡ record (told story at x) { given = given }
told_still story at given (Ok p) = refl
told_still story at given (Err f) = refl

-- ---- what is heard in a recording
-- nothing of it is cut
pub none_cut : (r : ReadRequest) (items : List Item) → chunks_given Never (chunks usual_wait 0 (arrivals_after r.ssrc r.payload_types [] items) r.source) ≡ chunks usual_wait 0 (arrivals_after r.ssrc r.payload_types [] items) r.source
none_cut r items =
    let law = recordings_law items r.ssrc r.payload_types in
    never_cut usual_wait 0 r.source (arrivals_after r.ssrc r.payload_types [] items) law.0 law.1

module _ {O : Type 0} (wrote : O → O → Texts → Type 0) where
  pub has_written : (request : ReadRequest) (ear : Ear) (first out : O) → IsBegunFor request ear → wrote first out [] → HasWritten wrote request first [] ear out
  has_written request ear first out h w = (begun usual_wait, record { arrivals = refl; moment = refl }, ([], ([], h), w))

  -- ---- what is written of what an ear gives
  -- no more was told, and more was written
  abbrev pub WritesStill : Ear → O → Ear → O → Type 0
  WritesStill before old after new = (first : O) (settings : EarSettings) (source : ℕ) (story : Story) → Written wrote first before old settings source story → Written wrote first after new settings source story

  pub writes_chunk : (before now after : Ear) (c : Chunk) (begun_with old new : O) → WritesStill before begun_with now old → GivesChunk now after c → WritesText wrote old new c → WritesStill before begun_with after new
  writes_chunk before now after c begun_with old new p g e first settings source story h =
      let q = p first settings source story h in
      let m = g settings source (record story { given = q.1.0 }) q.0 q.1.1 in
      (q.0 ++ c ∷ [], m, e first q.0 q.2)

  pub writes_none : (before now after : Ear) (begun_with old : O) → WritesStill before begun_with now old → GivesNone now after → GaveReady now → WritesReady wrote before begun_with after old
  writes_none before now after begun_with old p g ready first settings source story h =
      let q = p first settings source story h in
      let m = g settings source (record story { given = q.1.0 }) q.0 q.1.1 in
      ((q.0, m, q.2), subst (λ (texts : Texts). wrote first old texts) (ready settings source (record story { given = q.1.0 }) q.0 q.1.1) q.2)

  -- ---- a packet
  writes_more : (before after : Ear) (at : ℕ) (octets : List ℕ) (more : Texts) (old new : O) → GivesPlain before after at octets more → ((first : O) (gave : Texts) → wrote first old gave → wrote first new (gave ++ more)) → WritesPacket wrote at octets before old after new
  writes_more before after at octets more old new g e first settings source story h =
      let m = g settings source (record story { given = h.1.0 }) h.0 h.1.1 in
      (h.0 ++ more, (m.0, subst (λ (s : Story). Gave after settings source s (h.0 ++ more)) (told_given story at h.1.0 m.0 (text_for settings octets)) m.1), e first h.0 h.2)

  pub writes_plain : (before after : Ear) (at : ℕ) (octets : List ℕ) (c : Chunk) (old new : O) → GivesPlain before after at octets (c ∷ []) → WritesText wrote old new c → WritesPacket wrote at octets before old after new
  writes_plain before after at octets c old new g e = writes_more before after at octets (c ∷ []) old new g e

  pub writes_nothing : (before after : Ear) (at : ℕ) (octets : List ℕ) (old : O) → GivesPlain before after at octets [] → WritesPacket wrote at octets before old after old
  writes_nothing before after at octets old g = writes_more before after at octets [] old old g (λ first gave w. subst (λ (texts : Texts). wrote first old texts) (sym (append-nil gave)) w)

  -- the packet was told, and what is ready was written
  pub writes_told : (before now after : Ear) (at : ℕ) (octets : List ℕ) (old new : O) → Becomes before now (λ settings story. told story at (text_for settings octets)) → WritesReady wrote now old after new → WritesPacket wrote at octets before old after new
  writes_told before now after at octets old new b p first settings source story h =
      let g = b.gave settings source (record story { given = h.1.0 }) h.0 h.1.1 in
      (p first settings source (told story at (text_for settings octets)) (h.0, (h.1.0, subst (λ (s : Story). Gave now settings source s h.0) (told_still story at h.1.0 (text_for settings octets)) g), h.2)).0

  -- ---- the end
  pub writes_end : (before now after : Ear) (old new : O) → Becomes before now (λ settings story. ended story) → AllReady before → WritesReady wrote now old after new → WritesEnd wrote before old new
  writes_end before now after old new b all p first settings source story h =
      let g = b.gave settings source (record story { given = h.1.0 }) h.0 h.1.1 in
      let ready = (all settings (source ∷ []) (record story { given = h.1.0 }) h.1.1.hears).chunks source in
      subst (λ (texts : Texts). wrote first new texts) ready (p first settings source (ended story) (h.0, (h.1.0, g), h.2)).1

  -- ---- a record
  pub item_written : (before after : Ear) (at : ℕ) (octets : List ℕ) (old new : O) → WritesPacket wrote at octets before old after new → WritesItem wrote (record { time = at; what = Whole octets }) before old after new
  item_written before after at octets old new p r first past h =
      (told h.0 at (text_for (asked_of r) octets), told_arrived h.0 past at (text_of octets (Some r.ssrc) r.payload_types) h.1, p first (asked_of r) r.source h.0 h.2)

  -- ---- all records
  -- some records came; the rest of the recording is still to come, where this is told
  abbrev WritesSome : Type 0 → Recording → Ear → O → Recording → Ear → O → Type 0
  WritesSome tells before ear old rest after new = (r : ReadRequest) (first : O) (past : List Arrival) → HasWritten wrote r first past ear old
      → (now : List Arrival) × HasWritten wrote r first now after new × (tells → arrivals_after r.ssrc r.payload_types now rest.items ≡ arrivals_after r.ssrc r.payload_types past before.items)

  pub some_none : (tells : Type 0) (before : Recording) (ear : Ear) (old : O) → WritesSome tells before ear old before ear old
  some_none tells before ear old r first past h = (past, h, λ t. refl)

  pub some_more : (tells : Type 0) (before rest next : Recording) (ear now after : Ear) (old said new : O) (item : Item) → WritesSome tells before ear old rest now said → (tells → rest ≡ with_item item next) → WritesItem wrote item now said after new
      → WritesSome tells before ear old next after new
  some_more tells before rest next ear now after old said new item p e one r first past h =
      let q = p r first past h in (
        arrivals_with r.ssrc r.payload_types item q.0,
        one r first q.0 q.1,
        λ t. ap (λ (w : Recording). arrivals_after r.ssrc r.payload_types q.0 w.items) (sym (e t)) ∙ q.2 t,
      )

  pub all_written : (tells : Type 0) (before rest : Recording) (ear after : Ear) (old new : O) → WritesSome tells before ear old rest after new → (tells → rest ≡ nothing) → WritesAll wrote tells before ear old after new
  all_written tells before rest ear after old new p e r first past h =
      let q = p r first past h in
      (q.0, q.1, λ t. ap (λ (w : Recording). arrivals_after r.ssrc r.payload_types q.0 w.items) (sym (e t)) ∙ q.2 t)

  -- what holds of the reader and the ear between two records
  pub record Going {S : Type 0} (tells : Type 0) (left : S → List ℕ) (faults : S → ℕ) (name : S → List ℕ) (before : DumpReader S) (ear : Ear) (old : O) (reader : DumpReader S) (now : Ear) (new : O) : Type 0 where
    pub items : List Item
    pub read : ReadSome tells left faults name before reader items
    pub giving : ∥ IsGiving now ∥₁
    pub quiet : is_quiet now ≡ true
    pub open_still : is_finished now ≡ false
    pub few : arrival_count now ≤ length items
    pub written : WritesSome tells (to_come left before) ear old (to_come left reader) now new

  -- ---- the whole recording
  pub whole_written : (r : ReadRequest) (tells : Type 0) (recording : Recording) (ear after : Ear) (old said new : O) → tells → IsBegunFor r ear → WritesAll wrote tells recording ear old after said → WritesEnd wrote after said new
      → WritesRecording wrote r recording old new
  whole_written r tells recording ear after old said new t h p rest first w octets e =
      let q = p r first [] (has_written r ear first old h w) in
      let came : q.1.0.past ≡ arrivals_of r octets = q.1.1.arrivals ∙ (q.2 t ∙ ap (λ (w : Recording). arrivals_after r.ssrc r.payload_types [] w.items) e) in
      let heard = rest first (asked_of r) r.source q.1.0 q.1.2 in
      subst (wrote first new) (none_cut r (records_of octets))
      (subst (λ (a : List Arrival). wrote first new (chunks_given Never (chunks usual_wait 0 a r.source))) came heard)

-- ---- as a script
pub line_written : (old new : List ℕ) (c : Chunk) → new ≡ old ++ chunk_line c → WritesText AreLines old new c
line_written old new c e first gave w =
    e
    ∙ (ap (λ l. l ++ chunk_line c) w
    ∙ (append_assoc first (lines_of gave) (chunk_line c)
    ∙ ap (λ l. first ++ l) (ap (λ l. lines_of gave ++ l) (sym (append-nil (chunk_line c))) ∙ sym (flat_map-append chunk_line gave (c ∷ [])))))

pub script_written : (r : ReadRequest) (recording : Recording) (old new : List ℕ) → old ≡ [] → WritesRecording AreLines r recording old new → IsTranscript r recording new
unfolding transcript_view
script_written r recording old new e w octets is = w [] e octets is
