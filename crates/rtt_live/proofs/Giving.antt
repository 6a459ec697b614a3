-- What was given to links.
use Rattle.std.proofs.Common.{◌≡◌, ℕ, zero, suc, ◌<◌, inl, inr, Some, List, [], ◌∷◌, ◌++◌, length, get_or, refl, ap, sym, ◌∙◌, subst, arith}
use Rattle.std.specs.Prelude.{map, slice_get, slice_set}
use Rattle.std.proofs.lemmas.Bool.{cases_eq, eq-eqb, ne_eqb}
use Rattle.std.proofs.lemmas.List.{append-nil, map-append}
use Rattle.rtt_base.specs.declared.text_packets.PayloadTypes.{PayloadTypes}
use Rattle.stream_spec.specs.Own.{Sent}
use Rattle.mixer_spec.specs.Setups.{Setup, stream}
use Rattle.packetizer.specs.Sending.{OfNext, octets_of}
use Rattle.packetizer.specs.Speakers.{EachIsNext, IsNext, text_of}
use Rattle.packetizer.specs.OutputStanding.{PacketizerStandsFor}
use Rattle.packetizer.specs.OutputStates.{State}
use Rattle.mixer.specs.declared.batches.Post.{Post}
use Rattle.link_io.specs.Given.{GivesAfter, packets}
use Rattle.mix_loop.specs.Addresses.{GiveAfter}
use Rattle.mix_loop.proofs.Addresses.{give_none}
use Rattle.mixer_posts.specs.Streams.{settings_at}
use Rattle.mixer_posts.specs.Posts.{AreNext, sent_of_post, sents_to}
use Rattle.rtt_live.specs.Listeners.{HasHeard, HearsNext, Listening}
use Rattle.rtt_live.specs.Ends.{WasCut, WasGiven, WasSent, addresses_of, packets_of, texts_in}

-- ---- lists
pub got : {X : Type 0} (xs : List X) (i : ℕ) (x d : X) → i < length xs → x ≡ get_or xs i d → slice_get xs i ≡ Some x
got [] i x d l e = absurd (omega arith)
got (y ∷ xs) zero x d l e = ap Some (sym e)
got (y ∷ xs) (suc i) x d l e = got xs i x d (omega arith) e

pub set_long : {X : Type 0} (xs : List X) (i : ℕ) (x : X) → length (slice_set xs i x) ≡ length xs
set_long [] i x = refl
set_long (y ∷ xs) zero x = refl
set_long (y ∷ xs) (suc i) x = ap suc (set_long xs i x)

set_there : {X : Type 0} (xs : List X) (i : ℕ) (x y : X) → slice_get (slice_set xs i x) i ≡ Some y → y ≡ x
set_there [] i x y e = cc e
set_there (z ∷ xs) zero x y e = cc e
set_there (z ∷ xs) (suc i) x y e = set_there xs i x y e

set_other : {X : Type 0} (xs : List X) (i j : ℕ) (x : X) → (i ≡ j → ⊥) → slice_get (slice_set xs i x) j ≡ slice_get xs j
set_other [] i j x n = refl
set_other (y ∷ xs) zero zero x n = absurd (n refl)
set_other (y ∷ xs) zero (suc j) x n = refl
set_other (y ∷ xs) (suc i) zero x n = refl
set_other (y ∷ xs) (suc i) (suc j) x n = set_other xs i j x (λ e. n (ap suc e))

-- where one has the number of the one that was at its place, all have the numbers of those before
pub same_numbers : {O : Type 0} (number_of : O → ℕ) (xs : List O) (i : ℕ) (old new d : O) → old ≡ get_or xs i d → number_of new ≡ number_of old → map number_of (slice_set xs i new) ≡ map number_of xs
same_numbers number_of [] i old new d is same = refl
same_numbers number_of (y ∷ xs) zero old new d is same = ap (λ (p : ℕ). p ∷ map number_of xs) (same ∙ ap number_of is)
same_numbers number_of (y ∷ xs) (suc i) old new d is same = ap (λ (ps : List ℕ). number_of y ∷ ps) (same_numbers number_of xs i old new d is same)

-- where a link was given something, and has its port, each has its own
pub give_one : {O : Type 0} (port_of : O → ℕ) (given : O → List (ℕ × List ℕ)) (pauses : ℕ) (xs : List O) (i : ℕ) (old new d : O) → old ≡ get_or xs i d → port_of new ≡ port_of old → GivesAfter pauses (given old) (given new)
    → GiveAfter pauses (addresses_of port_of given xs) (addresses_of port_of given (slice_set xs i new))
give_one port_of given pauses [] i old new d is same gives = tt
give_one {O} port_of given pauses (y ∷ xs) zero old new d is same gives =
    (same ∙ ap port_of is, subst (λ (x : O). GivesAfter pauses (given x) (given new)) is gives, give_none pauses (addresses_of port_of given xs))
give_one port_of given pauses (y ∷ xs) (suc i) old new d is same gives = (refl, ([], sym (append-nil (given y)), tt), give_one port_of given pauses xs i old new d is same gives)

-- one packet more
pub given_one : (old new : List (ℕ × List ℕ)) (pauses : ℕ) (packet : List ℕ) → new ≡ old ++ (pauses, packet) ∷ [] → packets new ≡ packets old ++ packet ∷ []
given_one old new pauses packet is = ap packets is ∙ map-append (λ (x : ℕ × List ℕ). x.1) old ((pauses, packet) ∷ [])

-- ---- one post more
sents_here : (sources : List ℕ) (j now : ℕ) (p : Post) (sent : List (ℕ × Post)) → p.terminal ≡ j → sents_to sources j ((now, p) ∷ sent) ≡ (now, sent_of_post sources p) ∷ sents_to sources j sent
sents_here sources j now p sent e = rw (eq-eqb p.terminal j e) refl

sents_else : (sources : List ℕ) (j now : ℕ) (p : Post) (sent : List (ℕ × Post)) → (p.terminal ≡ j → ⊥) → sents_to sources j ((now, p) ∷ sent) ≡ sents_to sources j sent
sents_else sources j now p sent n = rw (ne_eqb p.terminal j n) refl

-- the packet of the text was written, and the output knows of it
abbrev pub Writes : State → State → Post → List ℕ → Type 0
Writes old new p octets = OfNext old p.source p.media p.text (λ settings sources past e. (octets ≡ octets_of settings past e) × PacketizerStandsFor settings sources new (e ∷ past))

-- written where nothing stood, of a text that is read so
pub writes_into : (old new : State) (p : Post) (text before octets : List ℕ) → text ≡ p.text → before ≡ []
    → OfNext old p.source p.media text (λ settings sources past e. octets ≡ before ++ octets_of settings past e) → OfNext old p.source p.media text (λ settings sources past e. PacketizerStandsFor settings sources new (e ∷ past)) → Writes old new p octets
writes_into old new p text before octets is none wrote stands =
    subst (λ (xs : List ℕ). OfNext old p.source p.media xs (λ settings sources past e. (octets ≡ octets_of settings past e) × PacketizerStandsFor settings sources new (e ∷ past))) is
    (λ settings sources past h n. (wrote settings sources past h n ∙ ap (λ (xs : List ℕ). xs ++ octets_of settings past (text_of sources p.source p.media text)) none, stands settings sources past h n))

module _ {O : Type 0} (tells : Type 0) (given : O → List (List ℕ)) (faults : O → ℕ) (outputs : List State) (links : List O) (listeners : List Listening) (s : Setup) (now : ℕ) (p : Post) (new_o : State) (new_link : O) (new_l : Listening) (sent : List (ℕ × Post)) where
  -- with these in place of those of the terminal
  abbrev WasSentThen : PayloadTypes → ℕ → Type 0
  WasSentThen payload_types j = WasSent tells given faults (slice_set outputs p.terminal new_o) (slice_set links p.terminal new_link) (slice_set listeners p.terminal new_l) s payload_types j ((now, p) ∷ sent)

  -- another terminal is as it was
  sent_else : (payload_types : PayloadTypes) (j : ℕ) → (p.terminal ≡ j → ⊥) → WasSent tells given faults outputs links listeners s payload_types j sent → WasSentThen payload_types j
  sent_else payload_types j n w =
      let settings = settings_at s payload_types j in
      let same : sents_to w.sources j sent ≡ sents_to w.sources j ((now, p) ∷ sent) = sym (sents_else w.sources j now p sent n) in
      record {
        sources = w.sources;
        are = w.are;
        wrote = λ o e. subst (λ (xs : List (ℕ × Sent)). PacketizerStandsFor settings w.sources o (texts_in xs)) same (w.wrote o (sym (set_other outputs p.terminal j new_o n) ∙ e));
        gave = λ link e. subst (λ (xs : List (ℕ × Sent)). WasGiven tells given faults link (packets_of settings xs)) same (w.gave link (sym (set_other links p.terminal j new_link n) ∙ e));
        heard = λ l e. subst (λ (xs : List (ℕ × Sent)). HasHeard l (packets_of settings xs)) same (w.heard l (sym (set_other listeners p.terminal j new_l n) ∙ e));
      }

  module _ (o : State) (link : O) (l : Listening) (octets : List ℕ) (o_at : slice_get outputs p.terminal ≡ Some o) (link_at : slice_get links p.terminal ≡ Some link) (l_at : slice_get listeners p.terminal ≡ Some l)
      (writes : Writes o new_o p octets) (calm : faults new_link ≡ faults link) (told : tells → given new_link ≡ given link ++ octets ∷ []) (hears : HearsNext l octets new_l) where
    -- it was given to the link of its terminal, which heard it
    sent_here : (payload_types : PayloadTypes) → p.terminal < s.legs → AreNext s ((now, p) ∷ sent) → WasSent tells given faults outputs links listeners s payload_types p.terminal sent → WasSentThen payload_types p.terminal
    sent_here payload_types low next w =
        let k = p.terminal in
        let settings = settings_at s payload_types k in
        let before = sents_to w.sources k sent in
        let e = sent_of_post w.sources p in
        let here : sents_to w.sources k ((now, p) ∷ sent) ≡ (now, e) ∷ before = sents_here w.sources k now p sent refl in
        let may : IsNext (stream s k) (texts_in before) e = (subst (λ (xs : List (ℕ × Sent)). EachIsNext (stream s k) (texts_in xs)) here (next k w.sources low w.are)).0 in
        let step = writes settings w.sources (texts_in before) (w.wrote o o_at) may in
        let all : packets_of settings before ++ octets ∷ [] ≡ packets_of settings (sents_to w.sources k ((now, p) ∷ sent)) = ap (λ (q : List ℕ). packets_of settings before ++ q ∷ []) step.0 ∙ sym (ap (packets_of settings) here) in
        let old = w.gave link link_at in
        record {
          sources = w.sources;
          are = w.are;
          wrote = λ x q. subst (λ (y : State). PacketizerStandsFor settings w.sources y (texts_in (sents_to w.sources k ((now, p) ∷ sent)))) (sym (set_there outputs k new_o x q))
              (subst (λ (xs : List (ℕ × Sent)). PacketizerStandsFor settings w.sources new_o (texts_in xs)) (sym here) step.1);
          gave = λ x q. subst (λ (y : O). WasGiven tells given faults y (packets_of settings (sents_to w.sources k ((now, p) ∷ sent)))) (sym (set_there links k new_link x q))
              (calm ∙ old.0, λ t. told t ∙ (ap (λ (ps : List (List ℕ)). ps ++ octets ∷ []) (old.1 t) ∙ all));
          heard = λ x q. subst (λ (y : Listening). HasHeard y (packets_of settings (sents_to w.sources k ((now, p) ∷ sent)))) (sym (set_there listeners k new_l x q))
              (subst (λ (ps : List (List ℕ)). HasHeard new_l ps) all (hears (packets_of settings before) (w.heard l l_at)));
        }

    pub sent_one : (payload_types : ℕ → PayloadTypes) → p.terminal < s.legs → AreNext s ((now, p) ∷ sent) → ((j : ℕ) → j < s.legs → WasSent tells given faults outputs links listeners s (payload_types j) j sent)
        → (j : ℕ) → j < s.legs → WasSentThen (payload_types j) j
    sent_one payload_types low next w j low_j = elim (cases_eq p.terminal j) [
      | inl q ↦ subst (λ (k : ℕ). WasSentThen (payload_types k) k) q (sent_here (payload_types p.terminal) low next (w p.terminal low))
      | inr n ↦ sent_else (payload_types j) j n (w j low_j)
    ]

-- ---- a post that was given, or not, and was not sent to its end
module _ {O : Type 0} (tells : Type 0) (given : O → List (List ℕ)) (faults : O → ℕ) (outputs : List State) (links : List O) (listeners : List Listening) (s : Setup) (now : ℕ) (p : Post) (new_link : O) (sent : List (ℕ × Post)) where
  abbrev pub WasCutThen : PayloadTypes → ℕ → Type 0
  WasCutThen payload_types j = WasCut tells given (slice_set links p.terminal new_link) s payload_types j sent now p

  -- another terminal is as it was
  cut_else : (payload_types : PayloadTypes) (j : ℕ) → (p.terminal ≡ j → ⊥) → WasSent tells given faults outputs links listeners s payload_types j sent → WasCutThen payload_types j
  cut_else payload_types j n w = record {
    sources = w.sources;
    are = w.are;
    gave = λ link e t. inl ((w.gave link (sym (set_other links p.terminal j new_link n) ∙ e)).1 t);
  }

  module _ (link : O) (link_at : slice_get links p.terminal ≡ Some link) where
    -- the link of its terminal was not given it
    cut_here : (payload_types : PayloadTypes) → (tells → given new_link ≡ given link) → WasSent tells given faults outputs links listeners s payload_types p.terminal sent → WasCutThen payload_types p.terminal
    cut_here payload_types same w =
        let all = packets_of (settings_at s payload_types p.terminal) (sents_to w.sources p.terminal sent) in
        record {
          sources = w.sources;
          are = w.are;
          gave = λ x q t. inl (subst (λ (y : O). given y ≡ all) (sym (set_there links p.terminal new_link x q)) (same t ∙ (w.gave link link_at).1 t));
        }

    pub cut_one : (payload_types : ℕ → PayloadTypes) → (tells → given new_link ≡ given link) → ((j : ℕ) → j < s.legs → WasSent tells given faults outputs links listeners s (payload_types j) j sent) → (j : ℕ) → j < s.legs → WasCutThen (payload_types j) j
    cut_one payload_types same w j low_j = elim (cases_eq p.terminal j) [
      | inl q ↦ subst (λ (k : ℕ). WasCutThen (payload_types k) k) q (cut_here (payload_types p.terminal) same (w p.terminal (subst (λ (k : ℕ). k < s.legs) (sym q) low_j)))
      | inr n ↦ cut_else (payload_types j) j n (w j low_j)
    ]

    module _ (o new_o : State) (octets : List ℕ) (o_at : slice_get outputs p.terminal ≡ Some o) (writes : Writes o new_o p octets) (told : tells → given new_link ≡ given link ++ octets ∷ []) where
      -- it was given it, and nobody heard it
      unheard_here : (payload_types : PayloadTypes) → p.terminal < s.legs → AreNext s ((now, p) ∷ sent) → WasSent tells given faults outputs links listeners s payload_types p.terminal sent → WasCutThen payload_types p.terminal
      unheard_here payload_types low next w =
          let k = p.terminal in
          let settings = settings_at s payload_types k in
          let before = sents_to w.sources k sent in
          let e = sent_of_post w.sources p in
          let here : sents_to w.sources k ((now, p) ∷ sent) ≡ (now, e) ∷ before = sents_here w.sources k now p sent refl in
          let may : IsNext (stream s k) (texts_in before) e = (subst (λ (xs : List (ℕ × Sent)). EachIsNext (stream s k) (texts_in xs)) here (next k w.sources low w.are)).0 in
          let step = writes settings w.sources (texts_in before) (w.wrote o o_at) may in
          let all : packets_of settings before ++ octets ∷ [] ≡ packets_of settings (sents_to w.sources k ((now, p) ∷ sent)) = ap (λ (q : List ℕ). packets_of settings before ++ q ∷ []) step.0 ∙ sym (ap (packets_of settings) here) in
          record {
            sources = w.sources;
            are = w.are;
            gave = λ x q t. inr (subst (λ (y : O). given y ≡ packets_of settings (sents_to w.sources k ((now, p) ∷ sent))) (sym (set_there links k new_link x q))
                (told t ∙ (ap (λ (ps : List (List ℕ)). ps ++ octets ∷ []) ((w.gave link link_at).1 t) ∙ all)));
          }

      pub unheard_one : (payload_types : ℕ → PayloadTypes) → p.terminal < s.legs → AreNext s ((now, p) ∷ sent) → ((j : ℕ) → j < s.legs → WasSent tells given faults outputs links listeners s (payload_types j) j sent) → (j : ℕ) → j < s.legs → WasCutThen (payload_types j) j
      unheard_one payload_types low next w j low_j = elim (cases_eq p.terminal j) [
        | inl q ↦ subst (λ (k : ℕ). WasCutThen (payload_types k) k) q (unheard_here (payload_types p.terminal) low next (w p.terminal low))
        | inr n ↦ cut_else (payload_types j) j n (w j low_j)
      ]
