use Rattle.std.proofs.Common.{◌≡◌, ◌∙◌, ◌++◌, [], ◌∷◌, ℕ, Bool, not, false, cond, take, get_or, append-nil, ap, sym}
use Rattle.std.proofs.lemmas.List.Elements.{filter_more}
use Rattle.std.specs.List.{filter}
use Rattle.math_transforms.proofs.PresentIndices.{read}
use Rattle.math_ntt.proofs.ntt.correction.rows_dropped.Goals as goal
use Rattle.math_ntt.proofs.ntt.correction.rows_dropped.Goals.{then-not-get+in_ok-push, else-not-get}

pub loop-j-preserved : goal.loop-j-preserved
loop-j-preserved c =
    let rows = c.args.rows.now in
    let left = c.args.left.now in
    let j = c.loop-j.j in
    let row = get_or rows j 0 in
    let p : ℕ → Bool = λ i. not (get_or left i false) in
    let more = filter_more p rows j 0 c.loop-j-test.true in
    let decides : p row ≡ not c.get.result = ap not (read left row c.get.result c.get.ensures) in
    elim c.if-not-get.branch [
      | then-not-get+in_ok-push w ↦
          ap (λ v. v.items) w.out-is ∙ w.in_ok-push.ensures.items ∙ ap (λ xs. xs ++ (row ∷ [])) c.loop-j.invariant
          ∙ sym (more ∙ ap (λ b. filter p (take j rows) ++ cond b (row ∷ []) []) (decides ∙ ap not w.if-not-get.true))
      | else-not-get w ↦
          ap (λ v. v.items) w.out-is ∙ c.loop-j.invariant ∙ sym (append-nil (filter p (take j rows)))
          ∙ sym (more ∙ ap (λ b. filter p (take j rows) ++ cond b (row ∷ []) []) (decides ∙ ap not w.if-not-get.false))
    ]
