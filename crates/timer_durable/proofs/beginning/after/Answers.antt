use Rattle.std.proofs.Common.{◌++◌, ap, ◌∙◌, sym, subst, false, ◌≡◌}
use Rattle.std.proofs.lemmas.List.{take_rest}
use Rattle.timer_script.specs.Lines.{has_word}
use Rattle.timer_script.proofs.LineLemmas.{has_word_sound}
use Rattle.timer_durable.proofs.Splitting.{has_word_again}
use Rattle.timer_durable.proofs.beginning.after.Goals as goal

pub returns-then-starts_with-clause-some : goal.returns-then-starts_with-clause-some
unfolding has_word
returns-then-starts_with-clause-some c =
    has_word_sound c.args.front.now c.args.bytes.now (sym c.starts_with.ensures.value ∙ c.if-starts_with.true)
    ∙ ap (λ t. c.args.front.now ++ t) (sym (take_rest c.args.bytes.now _))

pub returns-else-starts_with-clause-none : goal.returns-else-starts_with-clause-none
unfolding has_word
returns-else-starts_with-clause-none c = λ rest is.
    let again = has_word_again c.args.front.now rest in
    let other = subst (λ bytes. has_word c.args.front.now bytes ≡ false) is (sym c.starts_with.ensures.value ∙ c.if-starts_with.false) in
    absurd (let both = sym other ∙ again in cc)
