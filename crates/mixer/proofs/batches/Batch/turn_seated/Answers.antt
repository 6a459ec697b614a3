use Rattle.std.proofs.Common.{◌<◌, ℕ, Some, ◌∷◌, [], length, length-append, ap, sym, subst, ◌∙◌, arith}
use Rattle.mixer.specs.declared.batches.Post.{Post}
use Rattle.mixer.specs.Posts.{ArePosts}
use Rattle.mixer.proofs.Putting.{filled_more, filled_same, posts_more}
use Rattle.mixer.specs.Turns.{batch_with}
use Rattle.mixer.proofs.batches.Batch.turn_seated.Goals as goal

pub returns-in-Some-clause-put : goal.returns-in-Some-clause-put
returns-in-Some-clause-put c = λ s j table now i. record {
  source = Some c.in-Some.source;
  text = c.turn_into-sent.new.post.text;
  turned = c.in-Some.ensures.turned s j table now i;
  batch = filled_more c.self.inside.places.items c.self.inside.len c.args.leg c.args.media c.in-Some.source c.turn_into-sent.new.post c.index_mut-in-Some.result.now c.args.self.now (sym c.self.view_is) c.self.invariant.places c.self.invariant.filled c.requires.room c.turn_into-sent.ensures.terminal c.turn_into-sent.ensures.media c.index_mut-in-Some.ensures.value;
}

pub returns-in_default-clause-put : goal.returns-in_default-clause-put
returns-in_default-clause-put c = λ s j table now i. record {
  source = c.turn_into-sent.result;
  text = c.turn_into-sent.new.post.text;
  turned = c.turn_into-sent.ensures.turned s j table now i;
  batch = filled_same c.self.inside.places.items c.self.inside.len c.turn_into-sent.new.post c.args.self.now (sym c.self.view_is)
      ∙ ap (λ o. batch_with o c.args.leg c.args.media c.turn_into-sent.new.post.text c.args.self.now) (sym c.in_default.is);
}

pub returns-in-Some-clause-posts : goal.returns-in-Some-clause-posts
returns-in-Some-clause-posts c = λ sources low count h.
    let is = filled_more c.self.inside.places.items c.self.inside.len c.args.leg c.args.media c.in-Some.source c.turn_into-sent.new.post c.index_mut-in-Some.result.now c.args.self.now (sym c.self.view_is) c.self.invariant.places c.self.invariant.filled c.requires.room c.turn_into-sent.ensures.terminal c.turn_into-sent.ensures.media c.index_mut-in-Some.ensures.value in
    subst (ArePosts sources) (sym is) (posts_more sources c.args.leg c.args.media c.in-Some.source c.turn_into-sent.new.post.text c.args.self.now low (subst (λ (n : ℕ). c.in-Some.source < n) (sym count) c.in-Some.ensures.within) h)

pub returns-in_default-clause-posts : goal.returns-in_default-clause-posts
returns-in_default-clause-posts c = λ sources low count h. subst (ArePosts sources) (sym (filled_same c.self.inside.places.items c.self.inside.len c.turn_into-sent.new.post c.args.self.now (sym c.self.view_is))) h

pub returns-in-Some-clause-few : goal.returns-in-Some-clause-few
returns-in-Some-clause-few c =
    let is = filled_more c.self.inside.places.items c.self.inside.len c.args.leg c.args.media c.in-Some.source c.turn_into-sent.new.post c.index_mut-in-Some.result.now c.args.self.now (sym c.self.view_is) c.self.invariant.places c.self.invariant.filled c.requires.room c.turn_into-sent.ensures.terminal c.turn_into-sent.ensures.media c.index_mut-in-Some.ensures.value in
    let post : Post = record { terminal = c.args.leg; source = c.in-Some.source; media = c.args.media; text = c.turn_into-sent.new.post.text } in
    omega (arith, ap length is, length-append c.args.self.now (post ∷ []))

pub returns-in_default-clause-few : goal.returns-in_default-clause-few
returns-in_default-clause-few c =
    let is = filled_same c.self.inside.places.items c.self.inside.len c.turn_into-sent.new.post c.args.self.now (sym c.self.view_is) in
    omega (arith, ap length is)
