use Rattle.std.proofs.Common.{◌∙◌, ◌∷◌, ◌++◌, ℕ, List, [], ap, subst, arith}
use Rattle.std.proofs.lemmas.List.{length-map}
use Rattle.link_io.specs.Given.{packets}
use Rattle.rtt_live.specs.Ends.{count_sources, packets_in}
use Rattle.rtt_live.specs.Listeners.{HearsNext}
use Rattle.rtt_live.proofs.Giving.{cut_one, give_one, given_one, got, same_numbers, sent_one, set_long, unheard_one, writes_into}
use Rattle.rtt_live.proofs.far_ends.FarEndsPostSink.send.Goals as goal

pub returns-in-Ok-hear-clause-took : goal.returns-in-Ok-hear-clause-took
returns-in-Ok-hear-clause-took g c = λ s payload_types sent next w.
    let ends = c.args.self.now in
    let p = c.args.post.now in
    let k = p.terminal in
    let gl = g.O.LinkOut in
    let many = length-map ends.outputs.items count_sources in
    let low = c.requires.post.below in
    let wrote = ends.wrote in
    let both = ends.both in
    let links = w.many in
    let o = c.index_mut-output.result.now in
    let link = c.index_mut-link.result.now in
    let l = c.index_mut-listener.result.now in
    let octets = c.packet.new.out in
    record {
      many = set_long ends.links.items k c.give.new.self ∙ links;
      each = sent_one gl.tells (packets_in gl.given) gl.faults ends.outputs.items ends.links.items ends.listeners.items s c.args._now p c.packet.new.self c.give.new.self c.hear.new.self sent
          o link l octets
          (got ends.outputs.items k o o (omega (arith, low, many)) c.index_mut-output.ensures.value)
          (got ends.links.items k link link (omega (arith, low, many, wrote)) c.index_mut-link.ensures.value)
          (got ends.listeners.items k l l (omega (arith, low, many, wrote, both)) c.index_mut-listener.ensures.value)
          (writes_into o c.packet.new.self p c.as_slice-text.result.now c.clear.new.self octets c.as_slice-text.ensures.value c.clear.ensures
          (λ settings sources past h n. (c.in-Ok.ensures.packet settings sources past h n).ok) c.in-Ok.ensures.stands)
          c.in-Ok-give.ensures.calm
          (λ t. given_one (gl.given link) (gl.given c.give.new.self) c.args.beat.now.pauses c.as_slice.result.now (c.in-Ok-give.ensures.appended t) ∙ ap (λ (q : List ℕ). packets_in gl.given link ++ q ∷ []) c.as_slice.ensures.value)
          (subst (λ (q : List ℕ). HearsNext l q c.hear.new.self) c.as_slice-2.ensures.value c.in-Ok-hear.ensures)
          payload_types (omega (arith, low, many, wrote, links)) next w.each;
    }

pub returns-in_default-give-clause-sources : goal.returns-in_default-give-clause-sources
returns-in_default-give-clause-sources g c = same_numbers count_sources c.args.self.now.outputs.items c.args.post.now.terminal c.index_mut-output.result.now c.packet.new.self c.index_mut-output.result.now c.index_mut-output.ensures.value c.packet.ensures.sources

pub returns-in_default-give-clause-addresses : goal.returns-in_default-give-clause-addresses
returns-in_default-give-clause-addresses g c = give_one g.O.LinkOut.port g.O.LinkOut.given c.args.beat.now.pauses c.args.self.now.links.items c.args.post.now.terminal c.index_mut-link.result.now c.give.new.self c.index_mut-link.result.now c.index_mut-link.ensures.value c.give.ensures.same_port c.give.ensures.now

pub returns-in-Ok-hear-clause-sources : goal.returns-in-Ok-hear-clause-sources
returns-in-Ok-hear-clause-sources g c = same_numbers count_sources c.args.self.now.outputs.items c.args.post.now.terminal c.index_mut-output.result.now c.packet.new.self c.index_mut-output.result.now c.index_mut-output.ensures.value c.packet.ensures.sources

pub returns-in-Ok-hear-clause-addresses : goal.returns-in-Ok-hear-clause-addresses
returns-in-Ok-hear-clause-addresses g c = give_one g.O.LinkOut.port g.O.LinkOut.given c.args.beat.now.pauses c.args.self.now.links.items c.args.post.now.terminal c.index_mut-link.result.now c.give.new.self c.index_mut-link.result.now c.index_mut-link.ensures.value c.give.ensures.same_port c.give.ensures.now

pub returns-in-Err-clause-sources : goal.returns-in-Err-clause-sources
returns-in-Err-clause-sources g c = same_numbers count_sources c.args.self.now.outputs.items c.args.post.now.terminal c.index_mut-output.result.now c.packet.new.self c.index_mut-output.result.now c.index_mut-output.ensures.value c.packet.ensures.sources

pub returns-in-Err-clause-addresses : goal.returns-in-Err-clause-addresses
returns-in-Err-clause-addresses g c = give_one g.O.LinkOut.port g.O.LinkOut.given c.args.beat.now.pauses c.args.self.now.links.items c.args.post.now.terminal c.index_mut-link.result.now c.give.new.self c.index_mut-link.result.now c.index_mut-link.ensures.value c.give.ensures.same_port c.give.ensures.now

pub returns-in_default-give-clause-halted : goal.returns-in_default-give-clause-halted
returns-in_default-give-clause-halted g c = λ s payload_types sent next w.
    let ends = c.args.self.now in
    let p = c.args.post.now in
    let k = p.terminal in
    let gl = g.O.LinkOut in
    let many = length-map ends.outputs.items count_sources in
    let low = c.requires.post.below in
    let wrote = ends.wrote in
    let links = w.many in
    let link = c.index_mut-link.result.now in
    record {
      many = set_long ends.links.items k c.give.new.self ∙ links;
      each = cut_one gl.tells (packets_in gl.given) gl.faults ends.outputs.items ends.links.items ends.listeners.items s c.args._now p c.give.new.self sent
          link (got ends.links.items k link link (omega (arith, low, many, wrote)) c.index_mut-link.ensures.value)
          payload_types (λ t. ap packets (c.in_default-give.ensures.unchanged t)) w.each;
    }

pub returns-in-Err-clause-halted : goal.returns-in-Err-clause-halted
returns-in-Err-clause-halted g c = λ s payload_types sent next w.
    let ends = c.args.self.now in
    let p = c.args.post.now in
    let k = p.terminal in
    let gl = g.O.LinkOut in
    let many = length-map ends.outputs.items count_sources in
    let low = c.requires.post.below in
    let wrote = ends.wrote in
    let links = w.many in
    let o = c.index_mut-output.result.now in
    let link = c.index_mut-link.result.now in
    let octets = c.packet.new.out in
    record {
      many = set_long ends.links.items k c.give.new.self ∙ links;
      each = unheard_one gl.tells (packets_in gl.given) gl.faults ends.outputs.items ends.links.items ends.listeners.items s c.args._now p c.give.new.self sent
          link (got ends.links.items k link link (omega (arith, low, many, wrote)) c.index_mut-link.ensures.value)
          o c.packet.new.self octets
          (got ends.outputs.items k o o (omega (arith, low, many)) c.index_mut-output.ensures.value)
          (writes_into o c.packet.new.self p c.as_slice-text.result.now c.clear.new.self octets c.as_slice-text.ensures.value c.clear.ensures
          (λ settings sources past h n. (c.in-Ok.ensures.packet settings sources past h n).ok) c.in-Ok.ensures.stands)
          (λ t. given_one (gl.given link) (gl.given c.give.new.self) c.args.beat.now.pauses c.as_slice.result.now (c.in-Ok-give.ensures.appended t) ∙ ap (λ (q : List ℕ). packets_in gl.given link ++ q ∷ []) c.as_slice.ensures.value)
          payload_types (omega (arith, low, many, wrote, links)) next w.each;
    }
