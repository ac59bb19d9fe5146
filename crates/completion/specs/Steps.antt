-- How a link that no link leads to yet was reached.
use Rattle.completion.specs.declared.tree.Step.{Step}

abbrev pub no_step : Step
no_step = record { depth = 0; before = 0 }
