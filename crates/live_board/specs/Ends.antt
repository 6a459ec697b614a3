-- What the parts of an end of a board are.
use Rattle.std.specs.Prelude.{◌≡◌, ℕ, ◌++◌, true, false, List, [], ◌∷◌}
use Rattle.rtt_base.specs.declared.records.Chunk.{Chunk}
use Rattle.logbook.specs.Pages.{Named}
use Rattle.live_board.specs.declared.pages.Page.{Page}
use Rattle.live_board.specs.declared.pages.Publish.{Publish}
use Rattle.live_board.specs.declared.rule.EndView.{EndView}
use Rattle.live_board.specs.Histories.{changes_of, ended_in, octets_of, head_of}
use Rattle.live_board.specs.Pages.{IsGood, IsNext, published}
use Rattle.live_board.specs.Rule.{Knows, view_of}

-- a reader knows the board of the page that it keeps
pub record IsReading (v : EndView) (page : Page) : Type 0 where
  pub known : v.known ≡ true
  pub board : Knows page v
  pub good : IsGood page

-- the page that is shown is good, and nothing waits but what is counted
pub record IsWriting (shown : Page) (waits : List Publish) (word : Named) (pending : List Chunk) (octets : ℕ) : Type 0 where
  pub good : IsGood shown
  pub none : waits ≡ []
  pub word_is : word ≡ head_of shown.seen.book
  pub counted : octets ≡ octets_of (changes_of shown.seen.log ++ pending)

-- one publishing waits, which is the next of the page
pub record CanShow (shown : Page) (waits : List Publish) : Type 0 where
  pub good : IsGood shown
  pub one : (p : Publish) × (waits ≡ p ∷ []) × IsNext shown p

-- a board was laid: nothing was published and nothing waits, and its writer knows it
pub record IsLaid (shown : Page) (waits : List Publish) (v : EndView) (word : Named) : Type 0 where
  pub writing : IsWriting shown waits word [] 0
  pub knows : v ≡ view_of shown
  pub nothing : changes_of shown.seen.log ≡ []
  pub going : ended_in shown.seen.log ≡ false

-- what waited is shown
pub record HasShown (shown : Page) (waits : List Publish) (after : Page) (left : List Publish) : Type 0 where
  pub good : IsGood after
  pub all : (p : Publish) → waits ≡ p ∷ [] → after ≡ published shown p
  pub none : left ≡ []
