-- An ear that is told, and one that gives.
use Rattle.std.proofs.Common.{◌≡◌, ℕ, ◌<◌, Bool, true, false, IsUtf8, Some, None, List, [], ◌∷◌, ◌++◌, refl, ap, sym, ◌∙◌, arith, length, map, append-nil, append_assoc, subst, Result, Ok, Err, inl, inr}
use Rattle.std.specs.Prelude.{not, nat_le}
use Rattle.std.proofs.lemmas.Bool.{and_parts, cases_lt, leb-true, true≢false}
use Rattle.std.proofs.lemmas.Grind.{not_there}
use Rattle.std.proofs.lemmas.Str.{IsUtf8-had}
use Rattle.std.proofs.Math.Logic.{∥∥₁_map}
use Rattle.std.specs.Option.{ForSome}
use Rattle.std.proofs.lemmas.List.{drop_all, map-append, append_cancel_left}
use Rattle.rtt_base.specs.declared.text_packets.TextPacket.{TextPacket}
use Rattle.wire_spec.specs.declared.faults.TextFault.{TextFault}
use Rattle.wire_spec.specs.Packets.{Packet, has_text}
use Rattle.wire_spec.specs.Text.{text_within}
use Rattle.file_spec.specs.Primaries.{primary_limit}
use Rattle.stream_spec.specs.Lists.{In}
use Rattle.stream_spec.specs.Numbering.{Numbered}
use Rattle.stream_spec.specs.Hearing.{heard_by, AreHeardTexts}
use Rattle.stream_spec.specs.Ready.{Chunk, chunk}
use Rattle.stream_spec.specs.ChunksBy.{chunks_by, texts_added}
use Rattle.stream_spec.proofs.ByNumber.{by_more}
use Rattle.stream_spec.proofs.Taking.{heard_by_more}
use Rattle.reorder_buffer.specs.Stories.{Story, Given, came, ended, gave, given_of, dues, ready_dues}
use Rattle.reorder_buffer.specs.Tracks.{Tracks}
use Rattle.reorder_buffer.specs.States.{State, has_ready, with_packet}
use Rattle.reorder_buffer.proofs.Steps.{tracks_with}
use Rattle.reorder_buffer.specs.declared.answers.Due.{Due}
use Rattle.reorder_buffer.proofs.Giving.{order_is}
use Rattle.receiver.specs.Stands.{Stands, latest_number, used_packet}
use Rattle.receiver.specs.Pieces.{is_heard}
use Rattle.receiver.specs.declared.cuts.TextCut.{TextCut}
use Rattle.receiver.specs.declared.piece_cursors.PieceCursor.{PieceCursor}
use Rattle.receiver.specs.Cuts.{chunks_given, text_pieces, texts_given}
use Rattle.receiver.specs.PiecesLeft.{is_given, pieces_left, rest_of}
use Rattle.receiver.proofs.HandedOut.{given_append, pieces_given, pieces_nil, texts_nil, given_texts as cut_texts}
use Rattle.receiver.proofs.Blockwise.{heard_left}
use Rattle.receiver.specs.declared.settings.EarSettings.{EarSettings}
use Rattle.receiver.specs.declared.ears.Ear.{Ear}
use Rattle.receiver.specs.Hears.{text_for, told, arrival_count, is_finished, is_quiet, texts_left, ready_packet, ready_packets, last_after, Hears, Gave, IsGiving, GaveSome, Becomes, ready_chunks, story_chunks}
use Rattle.stream_spec.proofs.HeardTexts.{added_utf8}
use Rattle.receiver.proofs.Accepted.{accepted_text}
use Rattle.receiver.proofs.Given.{fronts, above_given, given_text, last_snoc, next_rises}
use Rattle.receiver.proofs.ReadyBy.{chunks_due, chunks_ready, chunks_front}

-- ---- what comes
pub rest_none : (cut : TextCut) (piece : PieceCursor) → is_given piece ≡ true → rest_of cut piece ≡ []
rest_none cut piece g =
    let parts = and_parts (nat_le (length piece.whole) piece.from) (is_heard piece.texts) g in
    ap (text_pieces cut) (drop_all piece.from piece.whole (leb-true (length piece.whole) piece.from parts.0)) ∙ pieces_nil cut

pub given_left : (cut : TextCut) (piece : PieceCursor) (p : TextPacket) → is_given piece ≡ true → pieces_left cut piece p ≡ []
given_left cut piece p g =
    let parts = and_parts (nat_le (length piece.whole) piece.from) (is_heard piece.texts) g in
    (λ i. rest_none cut piece g i ++ texts_given cut (heard_left piece.texts p parts.1 i)) ∙ texts_nil cut

pub quiet_given : (e : Ear) → is_quiet e ≡ true → is_given e.piece ≡ true
quiet_given e q = (and_parts (not (has_ready e.buffer)) (is_given e.piece) q).1

pub quiet_left : (e : Ear) (p : TextPacket) → is_quiet e ≡ true → pieces_left e.settings.cut e.piece p ≡ []
quiet_left e p q = given_left e.settings.cut e.piece p (quiet_given e q)

-- nothing is left of the packet given last, and another may stand in its place
module _ (e : Ear) (t : State) (quiet : is_quiet e ≡ true) where
  none_left : (settings : EarSettings) (source : ℕ) (story : Story) (given : List Chunk) → Gave e settings source story given
      → given ++ map (chunk 0 e.ready) (pieces_left e.settings.cut e.piece t.current) ≡ chunks_given settings.cut (chunks_by 0 (ready_packets story.given) source)
  none_left settings source story given g =
      ap (λ ts. given ++ map (chunk 0 e.ready) ts) (quiet_left e t.current quiet ∙ sym (quiet_left e e.buffer.current quiet)) ∙ g.chunks

  pub becomes : (f : EarSettings → Story → Story) → ((settings : EarSettings) (sources : List ℕ) (story : Story) → Hears e settings sources story → Hears (record e { buffer = t }) settings sources (f settings story))
      → ((settings : EarSettings) (story : Story) → (f settings story).given ≡ story.given) → Becomes e (record e { buffer = t }) f
  becomes f h same = record {
    hears = h;
    gave = λ settings source story given g. record {
      hears = h settings (source ∷ []) story g.hears;
      chunks = none_left settings source story given g ∙ ap (λ gs. chunks_given settings.cut (chunks_by 0 (ready_packets gs) source)) (sym (same settings story));
      texts = subst AreHeardTexts (sym (quiet_left e t.current quiet)) tt;
    };
    clear = (and_parts (not (has_ready e.buffer)) (is_given e.piece) quiet).1;
  }

-- time goes on, or ends
pub moves : (e : Ear) (t : State) (f : Story → Story) → is_quiet e ≡ true → ((story : Story) → Tracks e.buffer story → Tracks t (f story))
    → ((story : Story) → ((f story).wait ≡ story.wait) × ((f story).past ≡ story.past) × ((f story).given ≡ story.given)) → Becomes e (record e { buffer = t }) (λ settings story. f story)
moves e t f quiet tracks same = becomes e t quiet (λ settings story. f story)
    (λ settings sources story h. record {
      asked = h.asked;
      wait = (same story).0 ∙ h.wait;
      tracks = tracks story h.tracks;
      stands = rw ((same story).2) h.stands;
      latest = rw ((same story).2) h.latest;
      texts = rw ((same story).1) h.texts;
    })
    (λ settings story. (same story).2)

pub told_given : (story : Story) (now : ℕ) (x : Result Packet TextFault) → (told story now x).given ≡ story.given
told_given story now (Ok p) = refl
told_given story now (Err f) = refl

-- what is read for the ear is what is asked for
pub asked_same : (a b : EarSettings) (octets : List ℕ) → a ≡ b → text_for a octets ≡ text_for b octets
asked_same a b octets e = ap (λ (c : EarSettings). text_for c octets) e

-- also by a limit that was computed
pub asked_within : (settings : EarSettings) (octets : List ℕ) (most : ℕ) (r : Result Packet TextFault) → most ≡ primary_limit settings.long
    → text_within most octets (Some settings.ssrc) settings.payload_types ≡ r → text_for settings octets ≡ r
asked_within settings octets most r e x = ap (λ (n : ℕ). text_within n octets (Some settings.ssrc) settings.payload_types) (sym e) ∙ x

pub takes : (e : Ear) (t : State) (now : ℕ) (octets : List ℕ) (p : Packet) → is_quiet e ≡ true → text_for e.settings octets ≡ Ok p
    → ((story : Story) → Tracks e.buffer story → Tracks t (came story now p))
    → Becomes e (record e { buffer = t }) (λ settings story. told story now (text_for settings octets))
takes e t now octets p quiet x k = becomes e t quiet (λ settings story. told story now (text_for settings octets))
    (λ settings sources story h.
    let same : text_for settings octets ≡ Ok p = sym (asked_same e.settings settings octets h.asked) ∙ x in
    subst (λ r. Hears (record e { buffer = t }) settings sources (told story now r)) (sym same) (record {
      asked = h.asked;
      wait = h.wait;
      tracks = k story h.tracks;
      stands = h.stands;
      latest = h.latest;
      texts = (accepted_text (primary_limit e.settings.long) octets (Some e.settings.ssrc) e.settings.payload_types p x, h.texts);
    }))
    (λ settings story. told_given story now (text_for settings octets))

-- what is refused changes nothing but the packet's place
pub refuses : (e : Ear) (q : TextPacket) (now : ℕ) (octets : List ℕ) (f : TextFault) → is_quiet e ≡ true → text_for e.settings octets ≡ Err f
    → Becomes e (record e { buffer = with_packet e.buffer q }) (λ settings story. told story now (text_for settings octets))
refuses e q now octets f quiet x = becomes e (with_packet e.buffer q) quiet (λ settings story. told story now (text_for settings octets))
    (λ settings sources story h.
    let same : text_for settings octets ≡ Err f = sym (asked_same e.settings settings octets h.asked) ∙ x in
    subst (λ r. Hears (record e { buffer = with_packet e.buffer q }) settings sources (told story now r)) (sym same) (record {
      asked = h.asked;
      wait = h.wait;
      tracks = tracks_with e.buffer q story h.tracks;
      stands = h.stands;
      latest = h.latest;
      texts = h.texts;
    }))
    (λ settings story. told_given story now (text_for settings octets))

-- each chunk is ready by the end
pub end_chunks : (settings : EarSettings) (source : ℕ) (story : Story) → story.wait ≡ settings.wait → ready_dues (ended story) ≡ dues story → ready_chunks settings source (ended story) ≡ story_chunks settings source story
end_chunks settings source story w e =
    let all : dues (ended story) ≡ ready_dues (ended story) ++ [] = sym (append-nil (ready_dues (ended story)) ∙ e) in
    ap (chunks_given settings.cut) (sym (chunks_ready settings source (ended story) [] w all) ∙ (ap (λ gs. chunks_by 0 (ready_packets gs) source) e ∙ sym (chunks_due settings source story w)))

-- ---- one more packet is given
pub heard_one : (e m : Ear) (settings : EarSettings) (sources : List ℕ) (story : Story) (due : Due) (p : TextPacket) → m.settings ≡ e.settings → Hears e settings sources story → Tracks m.buffer (gave story (given_of due p))
    → Stands m.receiver sources (ready_packets story.given ++ used_packet due.ready due.number p ∷ []) → latest_number m.receiver ≡ Some due.number
    → Hears m settings sources (gave story (given_of due p))
heard_one e m settings sources story due p c h t s n =
    let more : ready_packets (story.given ++ given_of due p ∷ []) ≡ ready_packets story.given ++ used_packet due.ready due.number p ∷ [] = map-append ready_packet story.given (given_of due p ∷ []) in
    record {
      asked = c ∙ h.asked;
      wait = h.wait;
      tracks = t;
      stands = rw more s;
      latest = n ∙ sym (ap (last_after None) more ∙ last_snoc None (ready_packets story.given) (used_packet due.ready due.number p));
      texts = h.texts;
    }

-- ---- between two chunks
pub record Going (old e : Ear) : Type 0 where
  pub gave : (settings : EarSettings) (source : ℕ) (story : Story) (given : List Chunk) → Gave old settings source story given → GaveSome e settings source story given
  pub settings : e.settings ≡ old.settings
  pub arrivals : arrival_count e ≡ arrival_count old
  pub finished : is_finished e ≡ is_finished old

pub starts : (e : Ear) → Going e e
starts e = record { gave = λ settings source story given g. (story.given, g); settings = refl; arrivals = refl; finished = refl }

-- a text of the packet is given
pub peels : (old e m : Ear) (c : Chunk) → Going old e → m.settings ≡ e.settings → m.buffer ≡ e.buffer → m.receiver ≡ e.receiver → m.ready ≡ e.ready → c ≡ chunk 0 e.ready c.text → texts_left e ≡ c.text ∷ texts_left m
    → (settings : EarSettings) (source : ℕ) (story : Story) (given : List Chunk) → Gave old settings source story given → GaveSome m settings source story (given ++ c ∷ [])
peels old e m c going k t r y is left settings source story given g =
    let now = going.gave settings source story given g in
    let h = now.1.hears in
    let texts : AreHeardTexts (c.text ∷ texts_left m) = subst AreHeardTexts left now.1.texts in (
      now.0,
      record {
        hears = record {
          asked = k ∙ h.asked;
          wait = h.wait;
          tracks = rw t h.tracks;
          stands = rw r h.stands;
          latest = rw r h.latest;
          texts = h.texts;
        };
        chunks = append_assoc given (c ∷ []) (map (chunk 0 m.ready) (texts_left m))
            ∙ (ap (λ d. given ++ d ∷ map (chunk 0 m.ready) (texts_left m)) is
            ∙ (ap (λ n. given ++ chunk 0 e.ready c.text ∷ map (chunk 0 n) (texts_left m)) y
            ∙ (ap (λ ts. given ++ map (chunk 0 e.ready) ts) (sym left) ∙ now.1.chunks)));
        texts = texts.2;
      },
    )

-- what b adds
pub added_is : (us : List Numbered) (b : Numbered) (s : ℕ) (ts : List (List ℕ)) → ((u : Numbered) → In u us → u.number < b.number)
    → heard_by (us ++ b ∷ []) s ≡ heard_by us s ++ ts → ts ≡ texts_added us b s
added_is us b s ts above e = append_cancel_left (heard_by us s) ts (texts_added us b s) (sym e ∙ heard_by_more us b s above)

-- a packet is taken, and nothing was left of the one before
pub opens : (old e m : Ear) (due : Due) → Going old e → m.settings ≡ e.settings → texts_left e ≡ []
    → m.ready ≡ due.ready
    → ((story : Story) → Tracks e.buffer story → Tracks m.buffer (gave story (given_of due m.buffer.current)))
    → ((sources : List ℕ) (us : List Numbered) (time : ℕ) → Stands e.receiver sources us → Stands m.receiver sources (us ++ used_packet time due.number m.buffer.current ∷ []))
    → latest_number m.receiver ≡ Some due.number
    → (texts : List (List ℕ)) → ((source : ℕ) (us : List Numbered) (time : ℕ) → Stands e.receiver (source ∷ []) us → heard_by (us ++ used_packet time due.number m.buffer.current ∷ []) source ≡ heard_by us source ++ texts)
    → texts_left m ≡ texts_given m.settings.cut texts
    → (settings : EarSettings) (source : ℕ) (story : Story) (given : List Chunk) → Gave old settings source story given → GaveSome m settings source story given
opens old e m due going k none y t s n texts heard left settings source story given g =
    let now = going.gave settings source story given g in
    let h = now.1.hears in
    let before : Story = record story { given = now.0 } in
    let us : List Numbered = ready_packets now.0 in
    let one : Given = given_of due m.buffer.current in
    let u : Numbered = used_packet due.ready due.number m.buffer.current in
    let told : Tracks m.buffer (gave before one) = t before h.tracks in
    let above = above_given m.buffer before one told in
    let added : texts ≡ texts_added us u source = added_is us u source texts above (heard source us due.ready h.stands) in
    let cut : m.settings.cut ≡ settings.cut = ap (λ (x : EarSettings). x.cut) (k ∙ h.asked) in
    let left_is : texts_left m ≡ texts_given settings.cut (texts_added us u source) = left ∙ (λ i. texts_given (cut i) (added i)) in
    let whole : given ≡ chunks_given settings.cut (chunks_by 0 us source) = sym (append-nil given) ∙ (ap (λ ts. given ++ map (chunk 0 e.ready) ts) (sym none) ∙ now.1.chunks) in (
      now.0 ++ one ∷ [],
      record {
        hears = heard_one e m settings (source ∷ []) before due m.buffer.current k h told (s (source ∷ []) us due.ready h.stands) n;
        chunks = ap (λ cs. cs ++ map (chunk 0 m.ready) (texts_left m)) whole
            ∙ (ap (λ r. chunks_given settings.cut (chunks_by 0 us source) ++ map (chunk 0 r) (texts_left m)) y
            ∙ (ap (λ ts. chunks_given settings.cut (chunks_by 0 us source) ++ map (chunk 0 due.ready) ts) left_is
            ∙ (ap (λ cs. chunks_given settings.cut (chunks_by 0 us source) ++ cs) (sym (pieces_given settings.cut due.ready (texts_added us u source)))
            ∙ (sym (given_append settings.cut (chunks_by 0 us source) (map (chunk 0 due.ready) (texts_added us u source)))
            ∙ ap (chunks_given settings.cut) (sym (by_more 0 us u source above) ∙ ap (λ vs. chunks_by 0 vs source) (sym (map-append ready_packet now.0 (one ∷ []))))))));
        texts = subst AreHeardTexts (sym left_is) (cut_texts settings.cut (texts_added us u source) (added_utf8 us u source (given_text m.buffer before one told h.texts)));
      },
    )

-- nothing more is ready
pub rests : (old e m : Ear) → Going old e → m.settings ≡ e.settings → m.buffer ≡ e.buffer → m.receiver ≡ e.receiver → texts_left e ≡ [] → texts_left m ≡ []
    → (settings : EarSettings) (source : ℕ) (story : Story) (given : List Chunk) → Gave old settings source story given → GaveSome m settings source story given
rests old e m going k t r none left settings source story given g =
    let now = going.gave settings source story given g in
    let h = now.1.hears in (
      now.0,
      record {
        hears = record { asked = k ∙ h.asked; wait = h.wait; tracks = rw t h.tracks; stands = rw r h.stands; latest = rw r h.latest; texts = h.texts };
        chunks = ap (λ ts. given ++ map (chunk 0 m.ready) ts) left ∙ (ap (λ ts. given ++ map (chunk 0 e.ready) ts) (sym none) ∙ now.1.chunks);
        texts = subst AreHeardTexts (sym left) tt;
      },
    )

pub gave_ready : (old e : Ear) → Going old e → texts_left e ≡ [] → ((story : Story) → Tracks e.buffer story → story.given ≡ ready_dues story)
    → (settings : EarSettings) (source : ℕ) (story : Story) (given : List Chunk) → Gave old settings source story given → given ≡ ready_chunks settings source story
gave_ready old e going none all settings source story given g =
    let now = going.gave settings source story given g in
    let h = now.1.hears in
    let before : Story = record story { given = now.0 } in
    let o = order_is e.buffer before h.tracks in
    sym (append-nil given) ∙ (ap (λ ts. given ++ map (chunk 0 e.ready) ts) (sym none) ∙ (now.1.chunks
    ∙ ap (chunks_given settings.cut) (ap (λ gs. chunks_by 0 (ready_packets gs) source) (all before h.tracks) ∙ chunks_ready settings source story _ h.wait o.dues_are)))

pub gave_front : (e : Ear) (settings : EarSettings) (source : ℕ) (story : Story) (given : List Chunk) → Gave e settings source story given → (rest : List Chunk) × (story_chunks settings source story ≡ given ++ rest)
gave_front e settings source story given g =
    let f = fronts e.buffer story g.hears.tracks in
    let left : List Chunk = map (chunk 0 e.ready) (texts_left e) in
    let c = chunks_front settings source story story.given f.rest g.hears.wait f.is in
    let more = chunks_given settings.cut c.0 in (
      left ++ more,
      ap (chunks_given settings.cut) c.1
          ∙ (given_append settings.cut (chunks_by 0 (ready_packets story.given) source) c.0 ∙ (ap (λ cs. cs ++ more) (sym g.chunks) ∙ append_assoc given left more)),
    )

-- what is given is a text
stable : (b : Bool) → ¬ (¬ (b ≡ true)) → b ≡ true
stable true n = refl
stable false n = absurd (n (λ e. true≢false (sym e)))

pub given_texts : (old e : Ear) (t : List ℕ) (rest : List (List ℕ)) → Going old e → ∥ IsGiving old ∥₁ → texts_left e ≡ t ∷ rest → (has_text t ≡ true) × IsUtf8 t
given_texts old e t rest going is left = (stable (has_text t) (λ n. not_there is (λ i. n (texts i).0)), IsUtf8-had t (∥∥₁_map is (λ i. (texts i).1)))
  where
    texts : IsGiving old → (has_text t ≡ true) × IsUtf8 t
    texts i =
        let now = going.gave i.0 i.1 i.2 i.3 i.4 in
        let all : AreHeardTexts (t ∷ rest) = subst AreHeardTexts left now.1.texts in
        (all.0, all.1)

-- the next number is above the last one
pub rises_next : (old e : Ear) (s : State) (due : Due) (p : TextPacket) → Going old e → ∥ IsGiving old ∥₁ → ((story : Story) → Tracks e.buffer story → Tracks s (gave story (given_of due p)))
    → ForSome (latest_number e.receiver) (λ latest. latest < due.number)
rises_next old e s due p going is t latest l = elim (cases_lt latest due.number) [ inl lt ↦ lt | inr ge ↦ absurd (not_there is (λ i. let m = rises i in omega (arith, m, ge))) ]
  where
    rises : IsGiving old → latest < due.number
    rises i =
        let now = going.gave i.0 i.1 i.2 i.3 i.4 in
        let before : Story = record i.2 { given = now.0 } in
        next_rises s before (given_of due p) (t before now.1.hears.tracks) latest (sym now.1.hears.latest ∙ l)
