-- Where each chunk goes, and what the batches hold.
use Rattle.std.proofs.Common.{◌≡◌, ℕ, ◌<◌, Bool, true, false, cond, inl, inr, Option, Some, None, List, [], ◌∷◌, ◌++◌, refl, ap, sym, ◌∙◌}
use Rattle.std.specs.Prelude.{◌==◌, ◌&&◌, map}
use Rattle.std.proofs.lemmas.Bool.{cases_eq, eq-eqb, ne_eqb}
use Rattle.stream_spec.specs.Ready.{Chunk}
use Rattle.wire_spec.specs.Packets.{Packet, Arrival}
use Rattle.mixer_spec.specs.Setups.{Setup, stream}
use Rattle.mixer_spec.specs.Table.{Call, Admit, Hush, Leave, Offer, Turn, TurnEntry, Post, Taken, Table, chunks_taken, shared, is_given, has_room, give, given, free_place, come_to, packets, batch, new_packet, turned, is_idle, after_calls}
use Rattle.mixer_spec.specs.Calls.{took}
use Rattle.mixer_spec.specs.Laws.{carried}
use Rattle.mixer_spec.proofs.Lists.{nil, set_same, set_other}
use Rattle.mixer_spec.proofs.Legs.{chunks_more, come_taken}
use Rattle.mixer_spec.proofs.Kept.{departed_same, shared_given}
use Rattle.mixer_spec.proofs.Seats.{leave_with}
use Rattle.mixer_spec.proofs.Done.{below_all, quiet_parts}
use Rattle.mixer_spec.proofs.Batches.{posts_law, new_law}
use Rattle.mixer.specs.Allowed.{AreAllowed}
use Rattle.mixer.specs.Words.{accepted, given_to, put_out}
use Rattle.mixer.proofs.Waiting.{kept}
use Rattle.mixer_spec.proofs.Finish.{given_sent}

-- ---- what was taken
pub accepted_law : (s : Setup) (calls : List Call) (i : ℕ) → took s i calls ≡ accepted s i calls
accepted_law s [] i = refl
accepted_law s (Admit k l ∷ past) i = ap (λ (y : ℕ → List Taken). chunks_taken (y i)) (come_taken k l (after_calls s past) (free_place s (after_calls s past).seats)) ∙ accepted_law s past i
accepted_law s (Hush k ∷ past) i = accepted_law s past i
accepted_law s (Leave k ∷ past) i = ap (λ (y : ℕ → List Taken). chunks_taken (y i)) (departed_same s k (after_calls s past)).taken ∙ accepted_law s past i
accepted_law s (Offer c ∷ past) i = go (has_room s c.source c (after_calls s past)) (accepted_law s past i)
  where
    none : (b : Bool) → let no : List Chunk = [] in cond (b && false) (c ∷ []) no ≡ []
    none true = refl
    none false = refl

    go : (b : Bool) → took s i past ≡ accepted s i past → chunks_taken ((cond {A = Table} b (given c.source c (after_calls s past)) (after_calls s past)).taken i) ≡ accepted s i past ++ cond ((i == c.source) && b) (c ∷ []) []
    go false h = h ∙ sym (ap (λ xs. accepted s i past ++ xs) (none (i == c.source)) ∙ nil (accepted s i past))
    go true h = elim (cases_eq i c.source) [
      | inl q ↦
          ap chunks_taken (set_same (after_calls s past).taken c.source ((after_calls s past).taken c.source ++ record { chunk = c; given = is_given (after_calls s past).seats c.source } ∷ []) i q)
          ∙ (chunks_more ((after_calls s past).taken c.source) (record { chunk = c; given = is_given (after_calls s past).seats c.source })
          ∙ (ap (λ n. took s n past ++ c ∷ []) (sym q) ∙ (ap (λ xs. xs ++ c ∷ []) h ∙ ap (λ b. accepted s i past ++ cond (b && true) (c ∷ []) []) (sym (eq-eqb i c.source q)))))
      | inr n ↦
          ap chunks_taken (set_other (after_calls s past).taken c.source ((after_calls s past).taken c.source ++ record { chunk = c; given = is_given (after_calls s past).seats c.source } ∷ []) i n)
          ∙ (h ∙ (sym (nil (accepted s i past)) ∙ ap (λ b. accepted s i past ++ cond (b && true) (c ∷ []) []) (sym (ne_eqb i c.source n))))
    ]
accepted_law s (Turn now ∷ past) i = accepted_law s past i

-- ---- who was given it
pub shared_to : (s : Setup) (calls : List Call) (j i : ℕ) → shared j ((after_calls s calls).taken i) ≡ given_to s j i calls
shared_to s [] j i = refl
shared_to s (Admit k l ∷ past) j i = ap (λ (y : ℕ → List Taken). shared j (y i)) (come_taken k l (after_calls s past) (free_place s (after_calls s past).seats)) ∙ shared_to s past j i
shared_to s (Hush k ∷ past) j i = shared_to s past j i
shared_to s (Leave k ∷ past) j i = ap (λ (y : ℕ → List Taken). shared j (y i)) (departed_same s k (after_calls s past)).taken ∙ shared_to s past j i
shared_to s (Offer c ∷ past) j i = go (has_room s c.source c (after_calls s past)) (shared_to s past j i)
  where
    none : (b : Bool) → let no : List Chunk = [] in cond (b && false) (c ∷ []) no ≡ []
    none true = refl
    none false = refl

    go : (b : Bool) → shared j ((after_calls s past).taken i) ≡ given_to s j i past
        → shared j ((cond {A = Table} b (given c.source c (after_calls s past)) (after_calls s past)).taken i) ≡ given_to s j i past ++ cond ((i == c.source) && (b && is_given (after_calls s past).seats c.source j)) (c ∷ []) []
    go false h = h ∙ sym (ap (λ xs. given_to s j i past ++ xs) (none (i == c.source)) ∙ nil (given_to s j i past))
    go true h = shared_given (after_calls s past) c.source j i c ∙ ap (λ xs. xs ++ cond ((i == c.source) && is_given (after_calls s past).seats c.source j) (c ∷ []) []) h
shared_to s (Turn now ∷ past) j i = shared_to s past j i

pub sent_law : (s : Setup) (calls : List Call) (j i : ℕ) → AreAllowed s calls → (i ≡ j → ⊥)
    → let d = (after_calls s calls).terminals j in
    carried i d.past ++ d.waits i ≡ given_to s j i calls
sent_law s calls j i a n = kept s calls a j i n ∙ shared_to s calls j i

pub idle_law : (s : Setup) (calls : List Call) (j i : ℕ) → AreAllowed s calls → j < s.legs → i < s.legs → (i ≡ j → ⊥) → is_idle s (after_calls s calls) ≡ true → carried i ((after_calls s calls).terminals j).past ≡ given_to s j i calls
idle_law s calls j i a lj li n e =
    let w = after_calls s calls in
    let q = (quiet_parts s j i (w.terminals j) (below_all (λ x. Rattle.mixer_spec.specs.Table.is_quiet s x (w.terminals x)) s.legs j e lj) li n).0 in
    sym (nil (carried i (w.terminals j).past)) ∙ (ap (λ cs. carried i (w.terminals j).past ++ cs) (sym q) ∙ sent_law s calls j i a n)

-- ---- what the batches hold
abbrev arrival_of : ℕ → Packet → Arrival
arrival_of now p = record { time = now; packet = p }

abbrev post : ℕ → Packet → Post
post j p = record { terminal = j; packet = p }

posts_at : (now j : ℕ) (ps : List Packet) → map (λ (p : Post). arrival_of now p.packet) (map (post j) ps) ≡ map (arrival_of now) ps
posts_at now j [] = refl
posts_at now j (p ∷ ps) = ap (λ xs. arrival_of now p ∷ xs) (posts_at now j ps)

pub put_out_law : (s : Setup) (calls : List Call) (j : ℕ) → j < s.legs → packets (stream s j) ((after_calls s calls).terminals j).past ≡ put_out s j calls
put_out_law s [] j l = refl
put_out_law s (Admit k b ∷ past) j l = go (free_place s (after_calls s past).seats) (put_out_law s past j l)
  where
    go : (o : Option ℕ) → packets (stream s j) ((after_calls s past).terminals j).past ≡ put_out s j past → packets (stream s j) ((come_to k b (after_calls s past) o).terminals j).past ≡ put_out s j past
    go None h = h
    go (Some p) h = h
put_out_law s (Hush k ∷ past) j l = put_out_law s past j l
put_out_law s (Leave k ∷ past) j l =
    let h = put_out_law s past j l in leave_with s k (after_calls s past) (λ (t : Table). packets (stream s j) (t.terminals j).past ≡ put_out s j past) h (λ m. h)
put_out_law s (Offer c ∷ past) j l = go (has_room s c.source c (after_calls s past)) (put_out_law s past j l)
  where
    go : (b : Bool) → packets (stream s j) ((after_calls s past).terminals j).past ≡ put_out s j past → packets (stream s j) ((cond {A = Table} b (given c.source c (after_calls s past)) (after_calls s past)).terminals j).past ≡ put_out s j past
    go false h = h
    go true h = ap (packets (stream s j)) (given_sent c.source j c (after_calls s past)) ∙ h
put_out_law s (Turn now ∷ past) j l =
    let w = after_calls s past in
    new_law s now j w
    ∙ (ap (λ (xs : List Arrival). xs ++ map (arrival_of now) (new_packet (stream s j) (w.terminals j).past ((turned s now w).terminals j).past)) (put_out_law s past j l)
    ∙ ap (λ (xs : List Arrival). put_out s j past ++ xs)
    (sym (ap (λ (xs : List Post). map (λ (p : Post). arrival_of now p.packet) xs) (posts_law s now j w l) ∙ posts_at now j (new_packet (stream s j) (w.terminals j).past ((turned s now w).terminals j).past))))
