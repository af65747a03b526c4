use Rattle.event_worlds.specs.Accounted.{station_of}
use Rattle.worker_rounds.proofs.laws.laws_of_rounds.Goals as goal

pub returns : goal.returns
returns c = λ t custom cut. record {
  leads = λ words outcomes s h k input keeps fine led. c.steps_add_to_histories.ensures.next t custom cut words outcomes s h k input keeps fine led;
  hears = λ words outcomes s h k led heard. c.complete_verdicts_are_heard.ensures.step t custom cut words outcomes (station_of k) s h k led heard;
  lasts = λ words outcomes steps h k input keeps all last few. c.lasting_worlds_go_on.ensures.steps t custom cut words outcomes steps h k input keeps all last few;
  does = λ words outcomes ticks h k input keeps can all last few. c.rounds_do_something.ensures t custom cut words outcomes ticks h k input keeps can all last few;
}
