mod Consumings
