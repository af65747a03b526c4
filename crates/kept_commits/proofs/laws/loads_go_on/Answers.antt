use Rattle.std.proofs.Common.{subst, sym, ◌∙◌}
use Rattle.kept_commits.specs.Kept.{IsMetaOf}
use Rattle.kept_commits.proofs.laws.loads_go_on.Goals as goal

pub returns : goal.returns
returns c commits bytes meta kept is =
    subst (IsMetaOf commits)
    (c.metas_have_texts_of_their_own.ensures kept.meta meta kept.text.is_meta is.is_meta (sym kept.text.is_text ∙ is.is_text))
    kept.of
