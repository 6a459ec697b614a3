-- What a take of a link makes of what came of it.
use Rattle.std.proofs.Common.{◌≡◌, ℕ, Bool, true, false, Option, None, Some, List, [], ◌∷◌, ◌++◌, ◌||◌, ap, sym, ◌∙◌, refl, subst, arith}
use Rattle.std.specs.Prelude.{◌≤◌}
use Rattle.rtt_io.specs.Counts.{Rose}
use Rattle.stream_spec.specs.Links.{Takes, is_closed, is_closing}
use Rattle.link_io.specs.declared.ends.LinkIn as links
use Rattle.link_io.specs.declared.ends.LinkTake.{LinkTake}
use Rattle.link_io.specs.Taking.{came_of, closes, taken_of}
use Rattle.live_leg.specs.declared.paced_links.LinkStop.{LinkStop}
use Rattle.live_leg.specs.declared.paced_links.LinkStop.TheVariants.{Failed, Told}
use Rattle.live_leg.specs.declared.paced_links.PacedLink.{PacedLink}
use Rattle.live_leg.specs.Arriving.{ComesMore, FailsThen}
use Rattle.live_leg.specs.Linking.{LinkCame, LinkFailed}
use Rattle.live_leg.specs.LinkLegs.{Item, has_fault, is_fault, link_arrivals}
use Rattle.live_leg.specs.Stands.{Went}
use Rattle.live_leg.proofs.Listening.{closing_is}

closes_with : (a b old new : Bool) (rest : Bool) → a ≡ b → new ≡ (old || b) → (rest ≡ true → old ≡ true) → (a || rest) ≡ true → new ≡ true
closes_with true b old new rest e n r c = n ∙ (ap (λ x. old || x) (sym e) ∙ or_true old)
  where
    or_true : (x : Bool) → (x || true) ≡ true
    or_true true = refl
    or_true false = refl
closes_with false b old new rest e n r c = n ∙ ap (λ x. x || b) (r c)

module _ {L : Type 0} (g : links.Ghosts L) (old new : PacedLink L) where
  pub link_came : (taken : LinkTake) (octets : List ℕ) → (g.tells → g.taken new.link ≡ taken_of taken octets ∷ g.taken old.link) → g.closed new.link ≡ (g.closed old.link || closes taken.came)
      → g.faults new.link ≡ g.faults old.link → g.port new.link ≡ g.port old.link → ComesMore (LinkCame g) old new (taken_of taken octets)
  link_came taken octets appended closing calm port first takes c = record {
    taken = λ t. appended t ∙ ap (λ (ps : Takes). taken_of taken octets ∷ ps) (c.taken t);
    closed = closes_with (is_closing (came_of taken.came octets)) (closes taken.came) (g.closed old.link) (g.closed new.link) (is_closed takes) (closing_is taken.came octets) closing c.closed;
    calm = calm ∙ c.calm;
    port = port ∙ c.port;
  }

  pub link_failed : (g.tells → g.taken new.link ≡ g.taken old.link) → g.closed new.link ≡ g.closed old.link → g.faults old.link ≤ g.faults new.link → Rose (g.faults old.link) (g.faults new.link)
      → g.port new.link ≡ g.port old.link → FailsThen (LinkCame g) (LinkFailed g) old new Failed
  link_failed same closed falls rose port first takes c = record {
    taken = λ t. same t ∙ c.taken t;
    closed = λ e. closed ∙ c.closed e;
    never_falls = omega (arith, falls, c.calm);
    counts = subst (λ (n : ℕ). Rose n (g.faults new.link)) c.calm rose;
    port = port ∙ c.port;
  }

pub link_told : {L : Type 0} (g : links.Ghosts L) (link : PacedLink L) → FailsThen (LinkCame g) (LinkFailed g) link link Told
link_told g link first takes c = record { taken = c.taken; closed = c.closed; never_falls = omega (arith, c.calm); counts = c.calm; port = c.port }

-- ---- of a leg over a link, whether it stopped or not
module _ {L : Type 0} (g : links.Ghosts L) where
  pub went_taken : (o : Option LinkStop) (first now : PacedLink L) (takes : Takes) → Went (link_arrivals g) o first now takes → g.tells → g.taken now.link ≡ takes ++ g.taken first.link
  went_taken None first now takes w = w.taken
  went_taken (Some why) first now takes w = w.taken

  pub went_closed : (o : Option LinkStop) (first now : PacedLink L) (takes : Takes) → Went (link_arrivals g) o first now takes → is_closed takes ≡ true → g.closed now.link ≡ true
  went_closed None first now takes w = w.closed
  went_closed (Some why) first now takes w = w.closed

  pub went_port : (o : Option LinkStop) (first now : PacedLink L) (takes : Takes) → Went (link_arrivals g) o first now takes → g.port now.link ≡ g.port first.link
  went_port None first now takes w = w.port
  went_port (Some why) first now takes w = w.port

pub fault_append : (xs ys : List Item) → has_fault (xs ++ ys) ≡ (has_fault xs || has_fault ys)
fault_append [] ys = refl
fault_append (x ∷ xs) ys = ap (λ b. is_fault x || b) (fault_append xs ys) ∙ go (is_fault x)
  where
    go : (b : Bool) → (b || (has_fault xs || has_fault ys)) ≡ ((b || has_fault xs) || has_fault ys)
    go true = refl
    go false = refl
