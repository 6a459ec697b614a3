-- One entry more is one packet more.
use Rattle.std.proofs.Common.{◌≡◌, ℕ, zero, suc, ◌+◌, ◌<◌, ◌≤◌, List, [], ◌∷◌, ◌++◌, length, get_or, set, Some, Result, Ok, Err, refl, ap, subst, sym, ◌∙◌, arith}
use Rattle.std.specs.Prelude.{All, OnErr, OnOk, map, reverse, slice_get, slice_index, slice_index_or, slice_set}
use Rattle.std.proofs.lemmas.List.{length-set, map-set, map_push, reverse-append}
use Rattle.std.proofs.lemmas.List.Elements.{All-nil, All-push, All-same, All-set}
use Rattle.std.proofs.lemmas.Option.{get_or_from_slice_get, slice_get_within}
use Rattle.std.proofs.Math.Seq.{map-set_same}
use Rattle.rtt_base.specs.declared.errors.NoMemory.{NoMemory}
use Rattle.stream_spec.specs.Own.{Sent}
use Rattle.packetizer.specs.declared.outputs.PacketizerSettings.{PacketizerSettings}
use Rattle.packetizer.specs.OutputSettings.{AreSettings}
use Rattle.packetizer.specs.Speakers.{AreDistinct, text_of}
use Rattle.sent_log.specs.declared.logs.SentLog.TheInside.{Inside}
use Rattle.sent_log.specs.declared.terminals.LoggedPacket.{LoggedPacket}
use Rattle.sent_log.specs.declared.terminals.TerminalLog.{TerminalLog}
use Rattle.sent_log.specs.declared.turns.Turn.{Turn}
use Rattle.sent_log.specs.Insides.{HasNoted, IsEntry, IsLog, IsSame, IsTerminal, NotesNothing, sending_of, sent_by, state_of, turn_at}
use Rattle.sent_log.specs.Lists.{EachGrows, Grows, StandsAt, list_at, octets_at}
use Rattle.sent_log.specs.declared.runs.Run.{Run}
use Rattle.sent_log.specs.Runs.{IsRun, empty_run}
use Rattle.sent_log.specs.States.{HasSource, Sending, State, said, sent_to, sents, with_sent}
use Rattle.sent_log.proofs.Growing.{all_same, all_still}
use Rattle.sent_log.proofs.Running.{run_empty, runs_more}
use Rattle.wire_spec.proofs.Plain.{get_map}

-- ---- a terminal

-- it with these parts
abbrev pub sending : List Turn → List (List ℕ) → PacketizerSettings → List ℕ → ℕ → List LoggedPacket → Sending
sending turns texts settings sources first entries = record {
  settings = settings;
  sources = sources;
  sent = reverse (map (sent_by turns texts first sources) entries);
}

-- the same entries
pub sending_same : (turns : List Turn) (texts : List (List ℕ)) (t t' : TerminalLog) (entries : List LoggedPacket) → IsSame t t' → t'.entries.items ≡ entries → sending_of turns texts t' ≡ sending turns texts t.settings t.sources.items t.first entries
sending_same turns texts t t' entries s e =
    ap (λ (settings : PacketizerSettings). sending turns texts settings t'.sources.items t'.first t'.entries.items) s.settings
    ∙ (ap (λ (sources : List ℕ). sending turns texts t.settings sources t'.first t'.entries.items) s.sources
    ∙ (ap (λ (first : ℕ). sending turns texts t.settings t.sources.items first t'.entries.items) s.first
    ∙ ap (λ (es : List LoggedPacket). sending turns texts t.settings t.sources.items t.first es) e))

newest : {X Y : Type 0} (f : X → Y) (xs : List X) (x : X) → reverse (map f (xs ++ x ∷ [])) ≡ f x ∷ reverse (map f xs)
newest {X} {Y} f xs x = ap (λ (ys : List Y). reverse ys) (map_push f xs x) ∙ reverse-append (map f xs) (f x ∷ [])

noted_sent : (turns : List Turn) (texts : List (List ℕ)) (t t' : TerminalLog) (now media turn source : ℕ) (text : List ℕ) → turn_at turns turn ≡ record { now = now; media = media } → IsSame t t' → HasNoted turn source text texts t t'
    → sending_of turns texts t' ≡ with_sent now (text_of t.sources.items source media text) (sending_of turns texts t)
noted_sent turns texts t t' now media turn source text e s n =
    let sources = t.sources.items in
    let entry : LoggedPacket = record { turn = turn; place = n.place; len = length text; source = source } in
    let one : sent_by turns texts t.first sources entry ≡ (now, text_of sources source media text) =
    ap (λ (u : Turn). (u.now, text_of sources source u.media (octets_at (list_at texts (t.first + source)) n.place (length text)))) e
    ∙ ap (λ (xs : List ℕ). (now, text_of sources source media xs)) n.stands.is in
    sending_same turns texts t t' (t.entries.items ++ entry ∷ []) s n.entries
    ∙ (ap (λ (xs : List (ℕ × Sent)). record { settings = t.settings; sources = sources; sent = xs }) (newest (sent_by turns texts t.first sources) t.entries.items entry)
    ∙ ap (λ (x : ℕ × Sent). record { settings = t.settings; sources = sources; sent = x ∷ (sending_of turns texts t).sent }) one)

-- what holds of it where its entries are these
still : (turns : List Turn) (texts : List (List ℕ)) (t t' : TerminalLog) (entries : List LoggedPacket) → IsTerminal turns texts t → IsSame t t' → t'.entries.items ≡ entries → All (IsEntry turns texts t.first t.sources.items) entries
    → length t'.runs.items ≡ length t.sources.items
    → ((source : ℕ) (d : Run) → source < length t.sources.items → IsRun (list_at texts (t.first + source)) (said (slice_index t.sources.items source) (sents (sending_of turns texts t').sent)) (slice_index_or t'.runs.items source d))
    → IsTerminal turns texts t'
still turns texts t t' entries k s e a many runs = record {
  settings = rw s.settings k.settings;
  distinct = rw s.sources k.distinct;
  lists = rw (s.first, s.sources) k.lists;
  entries = rw (s.first, s.sources, e) a;
  each = many ∙ sym (ap length s.sources);
  runs = λ source d l.
      let sent = sents (sending_of turns texts t').sent in
      let run = slice_index_or t'.runs.items source d in
      subst (λ (n : ℕ). IsRun (list_at texts (n + source)) (said (slice_index t'.sources.items source) sent) run) (sym s.first)
      (subst (λ (xs : List ℕ). IsRun (list_at texts (t.first + source)) (said (slice_index xs source) sent) run) (sym s.sources) (runs source d (omega (arith, l, ap length s.sources))));
}

noted_still : (turns : List Turn) (texts : List (List ℕ)) (t t' : TerminalLog) (now media turn source : ℕ) (text : List ℕ) → IsTerminal turns texts t → turn_at turns turn ≡ record { now = now; media = media } → turn < length turns
    → source < length t.sources.items → length text < 1024 → IsSame t t' → HasNoted turn source text texts t t' → IsTerminal turns texts t'
noted_still turns texts t t' now media turn source text k is_turn l m short s n =
    let entry : LoggedPacket = record { turn = turn; place = n.place; len = length text; source = source } in
    let is : IsEntry turns texts t.first t.sources.items entry = record { turn = l; source = m; short = short; within = n.stands.within } in
    still turns texts t t' (t.entries.items ++ entry ∷ []) k s n.entries (All-push (IsEntry turns texts t.first t.sources.items) t.entries.items entry k.entries is)
    (ap (λ (rs : List Run). length rs) n.runs ∙ (length-set t.runs.items source n.run ∙ k.each))
    (λ i d below.
    let e = text_of t.sources.items source media text in
    let noted = noted_sent turns texts t t' now media turn source text is_turn s n in
    let past = sents (sending_of turns texts t).sent in
    let all : said (slice_index t.sources.items i) (sents (sending_of turns texts t').sent) ≡ said (slice_index t.sources.items i) (e ∷ past) = ap (λ (x : Sending). said (slice_index t.sources.items i) (sents x.sent)) noted in
    subst (λ (xs : List ℕ). IsRun (list_at texts (t.first + i)) xs (slice_index_or t'.runs.items i d)) (sym all)
    (runs_more t.sources.items source i (list_at texts (t.first + i)) t.runs.items t'.runs.items n.run d past e n.place k.distinct m below k.each refl (λ x. k.runs i x below)
    (λ q. subst (λ (j : ℕ). StandsAt (list_at texts (t.first + j)) n.place text) (sym q) n.stands) n.follows n.runs))

-- ---- all of them

pub sent_to_is : (log : State) (terminal at : ℕ) (e_of : List ℕ → Sent) (x : Sending) → slice_get log terminal ≡ Some x → sent_to terminal at e_of log ≡ slice_set log terminal (with_sent at (e_of x.sources) x)
sent_to_is log terminal at e_of x e = rw e refl

-- what holds of a terminal that notes a text, or is out of memory
pub record Steps (turns : List Turn) (texts : List (List ℕ)) (t t' : TerminalLog) (now media turn source : ℕ) (text : List ℕ) (r : Result (Unit {0}) NoMemory) : Type 0 where
  pub turn_is : turn_at turns turn ≡ record { now = now; media = media }
  pub turn_below : turn < length turns
  pub source_below : source < length t.sources.items
  pub short : length text < 1024
  pub same : IsSame t t'
  pub ok : OnOk r (HasNoted turn source text texts t t')
  pub err : OnErr r (NotesNothing t t')

steps_still : (turns : List Turn) (texts : List (List ℕ)) (ts : List TerminalLog) (terminal : ℕ) (t t' : TerminalLog) (now media turn source : ℕ) (text : List ℕ) (r : Result (Unit {0}) NoMemory) → All (IsTerminal turns texts) ts → slice_get ts terminal ≡ Some t
    → Steps turns texts t t' now media turn source text r → All (IsTerminal turns texts) (set ts terminal t')
steps_still turns texts ts terminal t t' now media turn source text r a g s = All-set (IsTerminal turns texts) ts terminal t' (go r s.ok s.err) a
  where
    k : IsTerminal turns texts t
    k = subst (λ (u : TerminalLog). IsTerminal turns texts u) (get_or_from_slice_get ts terminal t t g) (a terminal t (slice_get_within ts terminal t g))

    go : (r : Result (Unit {0}) NoMemory) → OnOk r (HasNoted turn source text texts t t') → OnErr r (NotesNothing t t') → IsTerminal turns texts t'
    go (Ok x) n e = noted_still turns texts t t' now media turn source text k s.turn_is s.turn_below s.source_below s.short s.same n
    go (Err x) n e =
        let same = sending_same turns texts t t' t.entries.items s.same e.entries in
        still turns texts t t' t.entries.items k s.same e.entries k.entries (ap (λ (rs : List Run). length rs) e.runs ∙ k.each)
        (λ source d l.
        subst (λ (rs : List Run). IsRun (list_at texts (t.first + source)) (said (slice_index t.sources.items source) (sents (sending_of turns texts t').sent)) (slice_index_or rs source d)) (sym e.runs)
        (subst (λ (x : Sending). IsRun (list_at texts (t.first + source)) (said (slice_index t.sources.items source) (sents x.sent)) (slice_index_or t.runs.items source d)) (sym same) (k.runs source d l)))

steps_sent : (turns : List Turn) (texts : List (List ℕ)) (ts : List TerminalLog) (terminal : ℕ) (t t' : TerminalLog) (now media turn source : ℕ) (text : List ℕ) (r : Result (Unit {0}) NoMemory) → slice_get ts terminal ≡ Some t
    → Steps turns texts t t' now media turn source text r
    → OnOk r (map (sending_of turns texts) (set ts terminal t') ≡ sent_to terminal now (λ sources. text_of sources source media text) (map (sending_of turns texts) ts))
steps_sent turns texts ts terminal t t' now media turn source text (Ok x) g s =
    let f = sending_of turns texts in
    map-set f ts terminal t'
    ∙ (ap (λ (x : Sending). set (map f ts) terminal x) (noted_sent turns texts t t' now media turn source text s.turn_is s.same s.ok)
    ∙ sym (sent_to_is (map f ts) terminal now (λ sources. text_of sources source media text) (f t) (get_map f ts terminal t g)))
steps_sent turns texts ts terminal t t' now media turn source text (Err x) g s = tt

steps_refused : (turns : List Turn) (texts : List (List ℕ)) (ts : List TerminalLog) (terminal : ℕ) (t t' : TerminalLog) (now media turn source : ℕ) (text : List ℕ) (r : Result (Unit {0}) NoMemory) → slice_get ts terminal ≡ Some t
    → Steps turns texts t t' now media turn source text r
    → OnErr r (map (sending_of turns texts) (set ts terminal t') ≡ map (sending_of turns texts) ts)
steps_refused turns texts ts terminal t t' now media turn source text (Ok x) g s = tt
steps_refused turns texts ts terminal t t' now media turn source text (Err x) g s =
    map-set_same (sending_of turns texts) ts terminal t' t (sending_same turns texts t t' t.entries.items s.same s.err.entries ∙ ap (sending_of turns texts) (sym (get_or_from_slice_get ts terminal t t g)))

-- the terminal is there, and the source is one of its
pub source_in : (turns : List Turn) (texts : List (List ℕ)) (ts : List TerminalLog) (terminal source : ℕ) → HasSource (map (sending_of turns texts) ts) terminal source → (t : TerminalLog) × (slice_get ts terminal ≡ Some t) × (source < length t.sources.items)
source_in turns texts [] terminal source h = absurd h
source_in turns texts (t ∷ ts) zero source h = (t, refl, h)
source_in turns texts (t ∷ ts) (suc terminal) source h = source_in turns texts ts terminal source h

-- in a log, and the terminal is the one that was read
pub source_there : (i : Inside) (log : State) (terminal source : ℕ) (t : TerminalLog) → state_of i ≡ log → t ≡ get_or i.terminals.items terminal t → HasSource log terminal source
    → (slice_get i.terminals.items terminal ≡ Some t) × (source < length t.sources.items)
source_there i log terminal source t v e h =
    let ts = i.terminals.items in
    let found = source_in i.turns.items i.texts.items ts terminal source (subst (λ (x : State). HasSource x terminal source) (sym v) h) in
    let same : found.0 ≡ t = sym (e ∙ get_or_from_slice_get ts terminal found.0 t found.1) in
    subst (λ (u : TerminalLog). (slice_get ts terminal ≡ Some u) × (source < length u.sources.items)) same (found.1, found.2)

-- the log, where the terminal that was read noted a text or is out of memory, and turns and texts grew
pub record Noted (i : Inside) (log : State) (terminal source : ℕ) (turns : List Turn) (texts : List (List ℕ)) (t' : TerminalLog) (now media : ℕ) (text : List ℕ) (r : Result (Unit {0}) NoMemory) : Type 0 where
  pub still : All (IsTerminal turns texts) (set i.terminals.items terminal t')
  pub sent : OnOk r (map (sending_of turns texts) (set i.terminals.items terminal t') ≡ sent_to terminal now (λ sources. text_of sources source media text) log)
  pub refused : OnErr r (map (sending_of turns texts) (set i.terminals.items terminal t') ≡ log)

pub noting : (i : Inside) (log : State) (terminal source : ℕ) (t : TerminalLog) (turns : List Turn) (texts : List (List ℕ)) (t' : TerminalLog) (now media turn : ℕ) (text : List ℕ) (r : Result (Unit {0}) NoMemory)
    → state_of i ≡ log → IsLog i → t ≡ get_or i.terminals.items terminal t → HasSource log terminal source → Grows i.turns.items turns → EachGrows i.texts.items texts
    → turn_at turns turn ≡ record { now = now; media = media } → turn < length turns → length text < 1024 → IsSame t t' → OnOk r (HasNoted turn source text texts t t') → OnErr r (NotesNothing t t')
    → Noted i log terminal source turns texts t' now media text r
noting i log terminal source t turns texts t' now media turn text r v a read has g h turn_is below short same ok err =
    let ts = i.terminals.items in
    let there = source_there i log terminal source t v read has in
    let before : map (sending_of turns texts) ts ≡ log = all_same i.turns.items turns i.texts.items texts ts g h a ∙ v in
    let steps : Steps turns texts t t' now media turn source text r = record { turn_is = turn_is; turn_below = below; source_below = there.1; short = short; same = same; ok = ok; err = err } in
    record {
      still = steps_still turns texts ts terminal t t' now media turn source text r (all_still i.turns.items turns i.texts.items texts ts g h a) there.0 steps;
      sent = subst (λ (old : State). OnOk r (map (sending_of turns texts) (set ts terminal t') ≡ sent_to terminal now (λ sources. text_of sources source media text) old)) before (steps_sent turns texts ts terminal t t' now media turn source text r there.0 steps);
      refused = subst (λ (old : State). OnErr r (map (sending_of turns texts) (set ts terminal t') ≡ old)) before (steps_refused turns texts ts terminal t t' now media turn source text r there.0 steps);
    }

-- ---- a terminal more

pub added_all : (turns : List Turn) (texts : List (List ℕ)) (ts : List TerminalLog) (t : TerminalLog) (log : State) → map (sending_of turns texts) ts ≡ log → t.entries.items ≡ []
    → map (sending_of turns texts) (ts ++ t ∷ []) ≡ log ++ record { settings = t.settings; sources = t.sources.items; sent = [] } ∷ []
added_all turns texts ts t log v e =
    let f = sending_of turns texts in
    let one : f t ≡ record { settings = t.settings; sources = t.sources.items; sent = [] } = ap (λ (es : List LoggedPacket). sending turns texts t.settings t.sources.items t.first es) e in
    map_push f ts t ∙ (ap (λ (xs : State). xs ++ f t ∷ []) v ∙ ap (λ (x : Sending). log ++ x ∷ []) one)

pub added_still : (turns : List Turn) (texts : List (List ℕ)) (ts : List TerminalLog) (t : TerminalLog) → All (IsTerminal turns texts) ts → AreSettings t.settings → AreDistinct t.sources.items → t.first + length t.sources.items ≤ length texts
    → length t.runs.items ≡ length t.sources.items → All (λ run. run ≡ empty_run) t.runs.items → t.entries.items ≡ [] → All (IsTerminal turns texts) (ts ++ t ∷ [])
added_still turns texts ts t a settings distinct lists each empty e =
    let none = All-same (IsEntry turns texts t.first t.sources.items) t.entries.items [] e (All-nil (IsEntry turns texts t.first t.sources.items)) in
    All-push (IsTerminal turns texts) ts t a (record {
      settings = settings;
      distinct = distinct;
      lists = lists;
      entries = none;
      each = each;
      runs = λ source d l.
          let nothing : said (slice_index t.sources.items source) (sents (sending_of turns texts t).sent) ≡ [] =
          ap (λ (es : List LoggedPacket). said (slice_index t.sources.items source) (sents (reverse (map (sent_by turns texts t.first t.sources.items) es)))) e in
          subst (λ (xs : List ℕ). IsRun (list_at texts (t.first + source)) xs (slice_index_or t.runs.items source d)) (sym nothing)
          (run_empty (list_at texts (t.first + source)) (slice_index_or t.runs.items source d) (empty source d (omega (arith, l, each))));
    })
