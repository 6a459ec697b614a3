-- Whose words they are, by computing: Bob says Hi, Cy says No and then Ok, and Cy's No is lost with his label.
use Rattle.std.proofs.Common.{◌≡◌, ℕ, false, inl, inr, Some, None, List, [], ◌∷◌, ◌++◌, refl, sym}
use Rattle.std.specs.Prelude.{codes, filter, map, not, ◌==◌}
use Rattle.view_spec.specs.Characters.{class_of}
use Rattle.stream_spec.specs.History.{History, Placed, placed}
use Rattle.stream_spec.specs.Kept.{kept}
use Rattle.stream_spec.specs.Own.{Sent, sent_history}
use Rattle.command_spec.specs.Stretches.{AreStretches, runs}
use Rattle.command_spec.specs.Named.{AreNamed, Piece}

abbrev sent : ℕ → List ℕ → Sent
sent media text = record { source = 9000; media = media; text = text }

-- what the mixer sends, with no text repeated
abbrev said : History
said = sent_history (record { ssrc = 9000; first = 0; base = 0; generations = 0 }) (sent 600 (codes "Ok. ") ∷ sent 300 (codes "[Cy] No. ") ∷ sent 0 (codes "[Bob] Hi. ") ∷ [])

-- what is heard where the packet with this number is lost
abbrev heard_without : ℕ → List (List (List ℕ))
heard_without k = map (λ r. map (λ (x : Placed). x.text) r) (runs (kept said (filter (λ x. not (x.place == k)) (placed said)) 9000))

-- nothing is lost: one run
whole : heard_without 3 ≡ (codes "[Bob] Hi. " ∷ codes "[Cy] No. " ∷ codes "Ok. " ∷ []) ∷ []
whole = refl

-- Cy's label is lost: his words begin a run of their own, in which no label stands
label_lost : heard_without 1 ≡ (codes "[Bob] Hi. " ∷ []) ∷ (codes "Ok. " ∷ []) ∷ []
label_lost = refl

-- ---- what the definitions refuse
-- runs that leave out an entry between them without a marker
refused_gap : (a b c : Placed) → (b ≡ c → ⊥) → (a ≡ b → ⊥) → AreStretches (a ∷ b ∷ c ∷ []) ((a ∷ c ∷ []) ∷ []) → ⊥
refused_gap a b c n m s = go s.0 s.1 s.2
  where
    go : (lost behind : List Placed) → (a ∷ b ∷ c ∷ []) ≡ lost ++ (a ∷ c ∷ behind) → ⊥
    go [] behind e = n (cc e)
    go (x ∷ []) behind e = m (let p : b ≡ a = cc e in sym p)
    go (x ∷ y ∷ []) behind e = cc e
    go (x ∷ y ∷ z ∷ []) behind e = cc e
    go (x ∷ y ∷ z ∷ w ∷ lost) behind e = cc e

abbrev bobs : Piece
bobs = record { leg = 1; ahead = []; label = Some false; behind = codes "Hi. " }

abbrev cys : Piece
cys = record { leg = 2; ahead = []; label = None; behind = codes "Ok. " }

-- Cy's words behind Bob's label
refused : AreNamed None (bobs ∷ cys ∷ []) → ⊥
refused a = elim a.1.0.names [ inl e ↦ cc e | inr e ↦ cc e ]

-- words that print ahead of their label
refused_ahead : AreNamed None (record { leg = 1; ahead = codes "a"; label = Some false; behind = [] } ∷ []) → ⊥
unfolding class_of
refused_ahead a = cc a.0.unseen
