-- What is told of one take more.
use Rattle.std.proofs.Common.{◌≡◌, ◌∙◌, true≢false, ◌||◌, ◌-◌, ℕ, Option, Bool, true, false, List, [], ◌∷◌, refl, sym, ap}
use Rattle.std.specs.Prelude.{if◌then◌else◌}
use Rattle.stream_spec.specs.Links as links
use Rattle.link_io.specs.declared.ends.Came.{Came}
use Rattle.link_io.specs.declared.ends.LinkTake.{LinkTake}
use Rattle.link_io.specs.Taking.{came_of, closes, taken_of}
use Rattle.call_links.specs.declared.peers.Peer.{Peer}
use Rattle.call_links.specs.Leaving.{after_taken, came_told, has_gone, is_farewell, peer_by, silent_since, takes_told}
use Rattle.std.proofs.Math.Bool.{or-true as or_true}

-- who has left comes not back
pub stays : (longest : Option ℕ) (old new : Peer) (t : links.Taken) → new ≡ after_taken longest old t → old.left ≡ true → new.left ≡ true
stays longest old new t e l = ap (λ (p : Peer). p.left) e ∙ ap (λ b. b || is_farewell old.last t.came || has_gone longest (t.at - silent_since old.since t)) l

-- what is told closes the link where the peer has left, or where what came does
told_closes : (p : Peer) (c : links.Came) → links.is_closing (came_told p c) ≡ (if p.left then true else links.is_closing c)
told_closes p c = go p.left
  where
    go : (b : Bool) → links.is_closing (if b then links.Closed else c) ≡ (if b then true else links.is_closing c)
    go true = refl
    go false = refl

pub closes_told : (p : Peer) (came told : Came) → ((octets : List ℕ) → came_of told octets ≡ came_told p (came_of came octets)) → closes told ≡ (if p.left then true else closes came)
closes_told p came told f = ap links.is_closing (f []) ∙ told_closes p (came_of came [])

-- whether the link is closed, by what it was and what is told
pub closed_more : (old new closed closing : Bool) → (old ≡ true → new ≡ true) → (new || (closed || closing)) ≡ ((old || closed) || (if new then true else closing))
closed_more old true closed closing f = sym (or_true (old || closed))
closed_more true false closed closing f = absurd (true≢false (sym (f refl)))
closed_more false false closed closing f = refl

pub closed_stays : (old new closed closing : Bool) → (old ≡ true → new ≡ true) → (closed ≡ true → closing ≡ true) → (old || closed) ≡ true → (if new then true else closing) ≡ true
closed_stays old true closed closing f g h = refl
closed_stays true false closed closing f g h = absurd (true≢false (sym (f refl)))
closed_stays false false closed closing f g h = g h

-- takes behind which what came is told so
pub told_more : (longest : Option ℕ) (past all : links.Takes) (old new : Peer) (taken : LinkTake) (told : Came) (octets : List ℕ)
    → old ≡ peer_by longest past
    → all ≡ taken_of taken octets ∷ past
    → new ≡ after_taken longest old (taken_of taken octets)
    → ((o : List ℕ) → came_of told o ≡ came_told new (came_of taken.came o))
    → takes_told longest all ≡ taken_of (record { at = taken.at; came = told }) octets ∷ takes_told longest past
told_more longest past all old new taken told octets known more after tells =
    let t = taken_of taken octets in
    let by : peer_by longest (t ∷ past) ≡ new = ap (λ (p : Peer). after_taken longest p t) (sym known) ∙ sym after in
    let so : came_told (peer_by longest (t ∷ past)) (came_of taken.came octets) ≡ came_of told octets =
    ap (λ (p : Peer). came_told p (came_of taken.came octets)) by ∙ sym (tells octets) in
    ap (takes_told longest) more ∙ ap (λ (c : links.Came). record { at = taken.at; came = c } ∷ takes_told longest past) so
