use Rattle.std.proofs.Common.{◌≡◌, ◌≤◌, ◌∙◌, ◌+◌, ◌-◌, ◌*◌, ℕ, ◌++◌, length, take, drop, replicate, refl, ap, arith}
use Rattle.std.proofs.Math.Nat.{mul-le-mul_right}
use Rattle.std.proofs.lemmas.List.{length-drop, length-map, length-replicate, length-take-le, take_all}
use Rattle.math_fields.specs.Elements.{residue}
use Rattle.c_calls.specs.WordElements.{elements}
use Rattle.c_calls.proofs.FilledRows.{hold_more}
use Rattle.c_calls.proofs.rows.filled_elements.Goals.{then-bytes-i-eq1+in_ok-push_elements, else-bytes-i-eq1+in_ok-resize}
use Rattle.c_calls.proofs.rows.filled_elements.Goals as goal

pub loop-i-preserved : goal.loop-i-preserved
loop-i-preserved c =
    let cols = c.args.cols in
    let i = c.loop-i.i in
    let cells = c.args.cells.now in
    let bytes = c.args.bytes.now in
    let at : ℕ = i * cols in
    let up : i + 1 ≤ length bytes = omega (arith, c.loop-i-test.true) in
    let within : (i + 1) * cols ≤ length bytes * cols = mul-le-mul_right cols up in
    let row = take cols (drop at cells) in
    let long : length row ≡ cols = length-take-le cols (drop at cells) (omega (arith, within, c.requires, length-drop at cells)) in
    let wide : at + cols - at ≡ cols = omega arith in
    elim c.if-bytes-i-eq1.branch [
      | then-bytes-i-eq1+in_ok-push_elements w ↦
          rw (w.out-is, w.in_ok-push_elements.ensures, wide)
          (hold_more cols i cells bytes c.loop-i.out.items (elements row) c.requires c.loop-i-test.true (length-map row residue ∙ long) (λ _. refl) c.loop-i.invariant)
      | else-bytes-i-eq1+in_ok-resize w ↦
          let before = c.loop-i.out.items in
          let zeros = replicate (at + cols - c.loop-i.out.len) w.from.result in
          let kept : take (at + cols) before ≡ before = take_all (at + cols) before (omega (arith, c.loop-i.invariant.count)) in
          let here : w.resize.new.self.items ≡ before ++ zeros = w.in_ok-resize.ensures.items ∙ ap (λ xs. xs ++ zeros) kept in
          let many : length zeros ≡ cols = length-replicate (at + cols - c.loop-i.out.len) w.from.result ∙ omega (arith, c.loop-i.out.ok.0, c.loop-i.invariant.count) in
          rw (w.out-is, here) (hold_more cols i cells bytes before zeros c.requires c.loop-i-test.true many (λ one. absurd (w.if-bytes-i-eq1.false one)) c.loop-i.invariant)
    ]
