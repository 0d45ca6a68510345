mod ListTurns
