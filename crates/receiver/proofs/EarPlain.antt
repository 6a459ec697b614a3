-- An ear that hears a packet where it lies.
use Rattle.std.proofs.Common.{◌≡◌, ℕ, ◌+◌, ◌<◌, ◌≤◌, true, false, inl, inr, IsUtf8, map, append-nil, Some, None, List, [], ◌∷◌, ◌++◌, ap, sym, ◌∙◌, arith, length, length-append, subst, Result, Ok}
use Rattle.std.specs.Option.{ForSome}
use Rattle.std.proofs.lemmas.Bool.{cases_lt}
use Rattle.std.proofs.lemmas.Grind.{not_there}
use Rattle.std.proofs.lemmas.List.{map-append}
use Rattle.wire_spec.specs.declared.faults.TextFault.{TextFault}
use Rattle.wire_spec.specs.Packets.{Packet}
use Rattle.file_spec.specs.Primaries.{primary_limit}
use Rattle.stream_spec.specs.Numbering.{Numbered}
use Rattle.stream_spec.specs.Hearing.{AreHeardTexts, text_list}
use Rattle.stream_spec.specs.Ready.{Chunk, chunk}
use Rattle.stream_spec.specs.ChunksBy.{chunks_by, texts_added}
use Rattle.stream_spec.proofs.ByNumber.{by_more}
use Rattle.reorder_buffer.specs.Stories.{Story, Given, came, gave, given_packet, ready_dues}
use Rattle.reorder_buffer.specs.States.{IsNext, given_at_once, ready_at_once}
use Rattle.reorder_buffer.specs.Views.{next_number}
use Rattle.reorder_buffer.specs.Told as buffer
use Rattle.reorder_buffer.proofs.AtOnce.{gives_at_once}
use Rattle.rtp_text.specs.declared.views.TextView.{TextView}
use Rattle.rtp_text.specs.Views.{packet_in}
use Rattle.receiver.specs.declared.source_texts.SourceText.{SourceText}
use Rattle.receiver.specs.Stands.{latest_number}
use Rattle.receiver.specs.Each.{AreHeard}
use Rattle.receiver.specs.Plain.{viewed_packet, TakesView, HearsView, HearsPrimary}
use Rattle.receiver.specs.declared.cuts.TextCut.{TextCut}
use Rattle.receiver.specs.Cuts.{chunks_given, is_dropped, most_of, texts_given}
use Rattle.receiver.specs.declared.piece_cursors.PieceCursor.{PieceCursor}
use Rattle.receiver.specs.PiecesLeft.{pieces_left}
use Rattle.receiver.proofs.HandedOut.{given_append, pieces_given, one_dropped, one_given, texts_nil}
use Rattle.receiver.specs.declared.settings.EarSettings.{EarSettings}
use Rattle.receiver.specs.declared.ears.Ear.{Ear}
use Rattle.receiver.specs.Hears.{Hears, Gave, GaveReady, IsGiving, GaveSome, text_for, told, arrival_count, is_quiet, texts_left, ready_packet, ready_packets, last_after}
use Rattle.receiver.specs.EarEach.{GatheredEach, HearsEach}
use Rattle.receiver.proofs.Accepted.{accepted_text}
use Rattle.receiver.proofs.Given.{above_given, given_fits, last_snoc, next_rises}
use Rattle.receiver.proofs.Giving.{asked_same, gave_ready, given_left, quiet_given, quiet_left, added_is, starts}

-- the number of such a packet is above that of the one before
pub rises_at_once : (e : Ear) (now number : ℕ) (p : Packet) (settings : EarSettings) (sources : List ℕ) (story : Story) → IsNext e.buffer number → number ≡ next_number e.buffer p.seq → Hears e settings sources story
    → ForSome (latest_number e.receiver) (λ latest. latest < number)
rises_at_once e now number p settings sources story next is h latest l =
    next_rises (given_at_once e.buffer now number) (came story now p) (given_packet number (ready_at_once e.buffer now) p) (gives_at_once e.buffer now number p next is story h.tracks) latest (sym h.latest ∙ l)

-- what it stands for behind the packet
pub hears_at_once : (e m : Ear) (view : TextView) (now number ready : ℕ) (octets : List ℕ) → number ≡ next_number e.buffer (packet_in view).seq
    → text_for e.settings octets ≡ Ok (packet_in view) → m.settings ≡ e.settings → buffer.GivesAtOnce e.buffer m.buffer now number ready
    → TakesView e.receiver m.receiver number view → latest_number m.receiver ≡ Some number
    → (settings : EarSettings) (sources : List ℕ) (story : Story) → Hears e settings sources story → Hears m settings sources (gave (came story now (packet_in view)) (given_packet number ready (packet_in view)))
hears_at_once e m view now number ready octets is x c gives takes latest settings sources story h =
    let p = packet_in view in
    let g : Given = given_packet number ready p in
    let u : Numbered = viewed_packet ready number view in
    let more : ready_packets (story.given ++ g ∷ []) ≡ ready_packets story.given ++ u ∷ [] = map-append ready_packet story.given (g ∷ []) in
    record {
      asked = c ∙ h.asked;
      wait = h.wait;
      tracks = gives p is story h.tracks;
      stands = rw more (takes sources (ready_packets story.given) ready h.stands);
      latest = latest ∙ sym (ap (last_after None) more ∙ last_snoc None (ready_packets story.given) u);
      texts = (accepted_text (primary_limit e.settings.long) octets (Some e.settings.ssrc) e.settings.payload_types p x, h.texts);
    }

-- what is heard of each source
pub hears_plain : (e m : Ear) (view : TextView) (now number ready : ℕ) (octets : List ℕ) (texts more : List SourceText) → number ≡ next_number e.buffer (packet_in view).seq
    → text_for e.settings octets ≡ Ok (packet_in view) → m.settings ≡ e.settings → buffer.GivesAtOnce e.buffer m.buffer now number ready → buffer.GaveReady m.buffer
    → TakesView e.receiver m.receiver number view → latest_number m.receiver ≡ Some number → HearsView e.receiver number view texts more → length more ≡ length texts
    → (settings : EarSettings) (sources : List ℕ) (story : Story) → HearsEach e settings sources story texts → GatheredEach m settings sources (told story now (text_for settings octets)) 1 more
hears_plain e m view now number ready octets texts more is x c gives all takes latest hears size settings sources story h =
    let p = packet_in view in
    let g : Given = given_packet number ready p in
    let u : Numbered = viewed_packet ready number view in
    let same : text_for settings octets ≡ Ok p = sym (asked_same e.settings settings octets h.hears.asked) ∙ x in
    let after = hears_at_once e m view now number ready octets is x c gives takes latest settings sources story h.hears in
    let whole : story.given ++ g ∷ [] ≡ ready_dues (came story now p) = all (gave (came story now p) g) after.tracks in
    let grown : ready_packets (story.given ++ g ∷ []) ≡ ready_packets story.given ++ u ∷ [] = map-append ready_packet story.given (g ∷ []) in
    let one : HearsEach m settings sources (record (came story now p) { given = story.given ++ g ∷ [] }) more = record {
      hears = after;
      each = size ∙ h.each;
      heard = subst (λ (vs : List Numbered). AreHeard sources vs more) (sym grown) (hears sources (ready_packets story.given) ready h.hears.stands h.heard);
    } in
    let count : length (ready_dues (came story now p)) ≡ length story.given + 1 = ap length (sym whole) ∙ length-append story.given (g ∷ []) in
    let fits = given_fits m.buffer (gave (came story now p) g) after.tracks in
    let few : length (ready_dues (came story now p)) ≤ arrival_count m = omega (arith, fits, ap length whole) in
    subst (λ (r : Result Packet TextFault). GatheredEach m settings sources (told story now r) 1 more) (sym same) (record {
      hears = subst (λ (gs : List Given). HearsEach m settings sources (record (came story now p) { given = gs }) more) whole one;
      used = count;
      few = few;
    })

-- ---- an ear of one source
-- what is given of it is its primary text
pub gives_plain : (e m : Ear) (view : TextView) (now number ready : ℕ) (octets : List ℕ) → is_quiet e ≡ true → number ≡ next_number e.buffer (packet_in view).seq
    → text_for e.settings octets ≡ Ok (packet_in view) → m.settings ≡ e.settings → m.piece ≡ e.piece → buffer.GivesAtOnce e.buffer m.buffer now number ready
    → TakesView e.receiver m.receiver number view → latest_number m.receiver ≡ Some number → HearsPrimary e.receiver number view
    → (more : List Chunk) → more ≡ map (chunk 0 ready) (texts_given e.settings.cut (text_list view.primary.now))
    → (settings : EarSettings) (source : ℕ) (story : Story) (given : List Chunk) → Gave e settings source story given → GaveSome m settings source (told story now (text_for settings octets)) (given ++ more)
gives_plain e m view now number ready octets quiet is x c q gives takes latest primary more are settings source story given gave_it =
    let p = packet_in view in
    let h = gave_it.hears in
    let g : Given = given_packet number ready p in
    let u : Numbered = viewed_packet ready number view in
    let us : List Numbered = ready_packets story.given in
    let same : text_for settings octets ≡ Ok p = sym (asked_same e.settings settings octets h.asked) ∙ x in
    let after = hears_at_once e m view now number ready octets is x c gives takes latest settings (source ∷ []) story h in
    let above = above_given m.buffer (came story now p) g after.tracks in
    let added : text_list view.primary.now ≡ texts_added us u source = added_is us u source (text_list view.primary.now) above (primary source us ready h.stands) in
    let cut : e.settings.cut ≡ settings.cut = ap (λ (x : EarSettings). x.cut) h.asked in
    let none : texts_left m ≡ [] = (λ i. pieces_left (c i).cut (q i) m.buffer.current) ∙ quiet_left e m.buffer.current quiet in
    let more_is : more ≡ chunks_given settings.cut (map (chunk 0 ready) (texts_added us u source)) =
    are ∙ ((λ i. map (chunk 0 ready) (texts_given (cut i) (added i))) ∙ sym (pieces_given settings.cut ready (texts_added us u source))) in
    let whole : given ≡ chunks_given settings.cut (chunks_by 0 us source) = sym (append-nil given) ∙ (ap (λ ts. given ++ map (chunk 0 e.ready) ts) (sym (quiet_left e e.buffer.current quiet)) ∙ gave_it.chunks) in
    subst (λ (r : Result Packet TextFault). GaveSome m settings source (told story now r) (given ++ more)) (sym same) (
      story.given ++ g ∷ [],
      record {
        hears = after;
        chunks = ap (λ ts. (given ++ more) ++ map (chunk 0 m.ready) ts) none
            ∙ (append-nil (given ++ more)
            ∙ (ap (λ cs. cs ++ more) whole
            ∙ (ap (λ cs. chunks_given settings.cut (chunks_by 0 us source) ++ cs) more_is
            ∙ (sym (given_append settings.cut (chunks_by 0 us source) (map (chunk 0 ready) (texts_added us u source)))
            ∙ ap (chunks_given settings.cut) (sym (by_more 0 us u source above) ∙ ap (λ vs. chunks_by 0 vs source) (sym (map-append ready_packet story.given (g ∷ []))))))));
        texts = subst AreHeardTexts (sym none) tt;
      },
    )

-- all that is ready was given
pub plain_ready : (e m : Ear) → is_quiet e ≡ true → m.piece ≡ e.piece → buffer.GaveReady m.buffer → GaveReady m
plain_ready e m quiet q all = gave_ready m m (starts m) (ap (λ (k : PieceCursor). pieces_left m.settings.cut k m.buffer.current) q ∙ given_left m.settings.cut e.piece m.buffer.current (quiet_given e quiet)) all

-- that the number is above the last one, and that the text is one, whatever the ear gave before
pub rises_there : (e : Ear) (now number : ℕ) (p : Packet) → IsNext e.buffer number → number ≡ next_number e.buffer p.seq → ∥ IsGiving e ∥₁ → ForSome (latest_number e.receiver) (λ latest. latest < number)
rises_there e now number p next is there latest l = elim (cases_lt latest number) [ inl lt ↦ lt | inr ge ↦ absurd (not_there there (λ i. let r = rises_at_once e now number p i.0 (i.1 ∷ []) i.2 next is i.4.hears latest l in omega (arith, r, ge))) ]

pub primary_utf8 : (settings : EarSettings) (octets : List ℕ) (view : TextView) → text_for settings octets ≡ Ok (packet_in view) → IsUtf8 view.primary.now
primary_utf8 settings octets view x = (accepted_text (primary_limit settings.long) octets (Some settings.ssrc) settings.payload_types (packet_in view) x).primary

-- the chunks of a text: none, or one
pub texts_none : (cut : TextCut) (ready : ℕ) (t : List ℕ) → length t ≡ 0 → [] ≡ map (chunk 0 ready) (texts_given cut (text_list t))
texts_none cut ready [] e = ap (map (chunk 0 ready)) (sym (texts_nil cut))
texts_none cut ready (x ∷ t) e = absurd (omega arith)

pub texts_dropped : (cut : TextCut) (ready : ℕ) (t : List ℕ) → 0 < length t → is_dropped cut t ≡ true → [] ≡ map (chunk 0 ready) (texts_given cut (text_list t))
texts_dropped cut ready [] l e = absurd (omega arith)
texts_dropped cut ready (x ∷ t) l e = ap (map (chunk 0 ready)) (sym (one_dropped cut (x ∷ t) e))

pub texts_one : (cut : TextCut) (ready : ℕ) (t : List ℕ) (k : Chunk) → k ≡ chunk 0 ready t → 0 < length t → is_dropped cut t ≡ false → length t ≤ most_of cut → k ∷ [] ≡ map (chunk 0 ready) (texts_given cut (text_list t))
texts_one cut ready [] k e l d m = absurd (omega arith)
texts_one cut ready (x ∷ t) k e l d m = ap (λ (c : Chunk). c ∷ []) e ∙ ap (map (chunk 0 ready)) (sym (one_given cut (x ∷ t) l d m))
