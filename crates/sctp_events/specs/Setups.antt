-- The setup of a pair, as the model's runs begin with it.
use Rattle.sctp_model.specs.end.Sealing.{Sealing}
use Rattle.sctp_model.specs.end.EndView.{Configuration}
use Rattle.sctp_model.specs.world.World.{Setup}
use Rattle.sctp_events.specs.Alike.{turned_round}
use Rattle.sctp_events.specs.declared.config.PairConfig.{PairConfig}
use Rattle.sctp_events.specs.declared.two_configs.TwoConfigs.{TwoConfigs}

-- the setup of A and B with these configurations, each with a port that is that of the other's peer, where B has this seal
abbrev pub setup_with : (a b : Configuration) → Sealing → Setup
setup_with a b s = record { of_a = a; of_b = b; a_port = a.own_port; b_port = a.peer_port; sealing = s }

-- the setup of a pair with this configuration, whose listener has this seal
abbrev pub setup_of : PairConfig → Sealing → Setup
setup_of c s = setup_with c.a (turned_round c.a) s

-- the setup of a pair with these configurations, whose listener has this seal
abbrev pub setup_of_two : TwoConfigs → Sealing → Setup
setup_of_two c s = setup_with c.a c.b s
