-- Whom the terminals hear, before anything was given.
use Rattle.std.proofs.Common.{inl, inr, List, [], ◌∷◌, ◌++◌, sym, subst}
use Rattle.rtt_live.specs.Listeners.{HasHeard, Listening, NoneHeard}
use Rattle.stream_spec.proofs.Plain.{get_push as pushed}

pub none_more : (ls : List Listening) (l : Listening) → NoneHeard ls → HasHeard l [] → NoneHeard (ls ++ l ∷ [])
none_more ls l none h j x e = elim (pushed ls l j x e) [ inl f ↦ none j x f | inr q ↦ subst (λ (y : Listening). HasHeard y []) (sym q.1) h ]
